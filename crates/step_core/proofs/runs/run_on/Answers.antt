use Rattle.std.proofs.Common.{◌∙◌, List, map, ap, sym, subst}
use Rattle.heap_steps.specs.Actors.{EventList}
use Rattle.heap_steps.specs.declared.step.Event.{Event}
use Rattle.step_core.specs.Passages.{RunsTo, step_in, actor_in, actor_of}
use Rattle.step_core.proofs.Cores.Following.{grown, grown_by}
use Rattle.step_core.proofs.runs.run_on.Goals as goal

pub loop-step-preserved : goal.loop-step-preserved
loop-step-preserved c =
    let pushed = c.in_ok-push.ensures.ok in
    let events = ap (λ (r : EventList). r.events) pushed in
    let e = c.perform-event.result in
    record {
      cores = λ config before. subst (λ (es : List Event). RunsTo config es c.perform-event.new.self) (sym events)
          (c.perform-event.ensures.runs config c.loop-step.done.events (c.loop-step.invariant.cores config before));
      steps = ap (λ (es : List Event). map step_in es) events
          ∙ grown step_in c.loop-step.done.events e c.args.steps.now c.loop-step.step-index _
          c.loop-step.invariant.steps c.loop-step-test.true c.perform-event.ensures.step;
      actors = ap (λ (es : List Event). map actor_in es) events
          ∙ grown_by actor_in actor_of c.loop-step.done.events e c.args.steps.now c.loop-step.step-index _ c.loop-step.invariant.actors
          c.loop-step-test.true c.perform-event.ensures.actor;
      config = c.perform-event.ensures.config ∙ c.loop-step.invariant.config;
      done = ap (λ (r : EventList). r.config) pushed ∙ c.loop-step.invariant.done;
    }
