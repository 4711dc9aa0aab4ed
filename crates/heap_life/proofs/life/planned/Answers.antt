use Rattle.std.proofs.Common.{◌∙◌, List, map, ap, refl}
use Rattle.heap_steps.specs.Actors.{EventList}
use Rattle.heap_steps.specs.declared.step.Event.{Event}
use Rattle.step_core.specs.Passages.{step_in, actor_in, actor_of}
use Rattle.step_core.proofs.Cores.Following.{grown, grown_by}
use Rattle.heap_life.proofs.life.planned.Goals as goal

pub loop-step-preserved : goal.loop-step-preserved
loop-step-preserved c =
    let pushed = c.in_ok-push.ensures.ok in
    let events = ap (λ (r : EventList). r.events) pushed in
    record {
      steps = ap (λ (es : List Event). map step_in es) events
          ∙ grown step_in c.loop-step.events.events _ c.steps-steps.result.now c.loop-step.step-index _ c.loop-step.invariant.steps
          c.loop-step-test.true refl;
      actors = ap (λ (es : List Event). map actor_in es) events
          ∙ grown_by actor_in actor_of c.loop-step.events.events _ c.steps-steps.result.now c.loop-step.step-index _
          c.loop-step.invariant.actors c.loop-step-test.true c.actor_of.ensures.actor;
      config = ap (λ (r : EventList). r.config) pushed ∙ c.loop-step.invariant.config;
    }
