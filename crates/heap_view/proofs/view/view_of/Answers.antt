use Rattle.std.proofs.Common.{◌∙◌, List, All, ap, subst, sym}
use Rattle.heap_words.specs.Configs.{Suits}
use Rattle.heap_words.specs.declared.config.Config.{Config}
use Rattle.heap_steps.specs.Actors.{StepList, IsStep}
use Rattle.heap_steps.specs.declared.step.Step.{Step}
use Rattle.step_core.specs.Passages.{IsRunInOrder, RunsTo}
use Rattle.job_ends.proofs.Endings.{same_plan, memory_alone}
use Rattle.heap_view.specs.Views.{front, front_of}
use Rattle.heap_view.proofs.Fronts.{all_front, ok_then}
use Rattle.heap_view.proofs.view.view_of.Goals as goal

pub returns-in-Ok-clause-text : goal.returns-in-Ok-clause-text
returns-in-Ok-clause-text c =
    let run = c.in-Ok.ensures in
    let at = c.args.glance.now.at in
    let steps = c.first_of.ensures ∙ ap (λ (ss : List Step). front at ss) c.steps.ensures.steps in
    let same = same_plan c.config.result c.first_of.result.now (front_of at c.args.plan.now) c.config.ensures steps in
    let (last, is) = run.run in
    ok_then c.text_of.result c.text_of.ensures.text (λ text told. record {
      events = c.in-Ok._record;
      runs = subst (λ (p : StepList). IsRunInOrder p c.in-Ok._record) same
          (record {
            config = run.config;
            steps = run.steps;
            actors = run.actors;
            last = last;
            run = is;
            cores = (c.in-Ok.core, run.cores);
          });
      core = c.in-Ok.core;
      ends = subst (λ (k : Config). RunsTo k c.in-Ok._record.events c.in-Ok.core) c.config.ensures run.cores;
      is = told;
    })

pub returns-in-Ok-clause-fault : goal.returns-in-Ok-clause-fault
returns-in-Ok-clause-fault c =
    let run = c.in-Ok.ensures in
    let same = c.config.ensures in
    memory_alone c.args.plan.now.config c.text_of.result c.text_of.ensures.memory (subst Suits same run.suits)

pub run_to_core-requires : goal.run_to_core-requires
run_to_core-requires c =
    let plan = c.args.plan.now in
    let at = c.args.glance.now.at in
    let steps = c.first_of.ensures ∙ ap (λ (ss : List Step). front at ss) c.steps.ensures.steps in
    let each = all_front (IsStep plan.config) at plan.steps c.steps.ensures.each in
    subst (λ (ss : List Step). All (IsStep c.config.result) ss) (sym steps)
    (subst (λ (config : Config). All (IsStep config) (front at plan.steps)) (sym c.config.ensures) each)
