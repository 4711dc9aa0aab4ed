use Rattle.std.proofs.Common.{◌≡◌, map, take}
use Rattle.step_core.specs.Passages.{step_in}
use Rattle.heap_view.proofs.review.steps_of.Given as goal

abbrev pub invariant-loop-event : goal.invariant-loop-event
invariant-loop-event l = l.steps.items ≡ map step_in (take l.event-index l.events)
