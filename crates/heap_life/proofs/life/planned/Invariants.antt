use Rattle.std.proofs.Common.{◌≡◌, take, map}
use Rattle.step_core.specs.Passages.{step_in, actor_in, actor_of}
use Rattle.heap_life.proofs.life.planned.Given as goal

abbrev pub invariant-loop-step : goal.invariant-loop-step
invariant-loop-step l = record {
  steps : map step_in l.events.events ≡ take l.step-index l.steps;
  actors : map actor_in l.events.events ≡ take l.step-index (map actor_of l.steps);
  config : l.events.config ≡ l.plan.config;
}
