use Rattle.std.proofs.Common.{◌∙◌, subst, sym, All}
use Rattle.heap_words.specs.declared.config.Config.{Config}
use Rattle.heap_steps.specs.Actors.{IsStep}
use Rattle.step_core.proofs.Cores.Following.{passage_is_run}
use Rattle.step_core.proofs.Cores.Running.{runs_none}
use Rattle.step_core.proofs.runs.run_to_core.Goals as goal

pub returns-in-Err-clause-fault : goal.returns-in-Err-clause-fault
returns-in-Err-clause-fault c = c.run_fault.ensures c.args.config.now c.in-Err.ensures.fault

pub returns-clause-cores : goal.returns-clause-cores
returns-clause-cores c =
    c.in-Ok-run_on.ensures.runs c.args.config.now
    (runs_none c.args.config.now c.in-Ok.core c.in-Ok.ensures.fresh c.in-Ok.ensures.core c.in-Ok.ensures.stands)

pub returns-clause-run : goal.returns-clause-run
returns-clause-run c =
    let r = (c.in-Ok-run_on.ensures.runs c.args.config.now
    (runs_none c.args.config.now c.in-Ok.core c.in-Ok.ensures.fresh c.in-Ok.ensures.core c.in-Ok.ensures.stands)).runs in
    (r.last, passage_is_run _ _ _ _ _ r.passage)

pub run_on-requires : goal.run_on-requires
run_on-requires c = subst (λ (config : Config). All (IsStep config) c.args.steps.now) (sym c.in-Ok.ensures.config) c.requires

pub returns-in_default-clause-fault : goal.returns-in_default-clause-fault
returns-in_default-clause-fault c = c.in-Ok.ensures.suits

pub returns-clause-suits : goal.returns-clause-suits
returns-clause-suits c = c.in-Ok.ensures.suits

pub returns-clause-config : goal.returns-clause-config
returns-clause-config c = c.in-Ok-run_on.ensures.config ∙ c.in-Ok.ensures.config
