use Rattle.step_core.proofs.Pauses.Pausing.{moved_ready}
use Rattle.step_core.proofs.heap.Core.move_set.Goals as goal

pub returns-clause-moved : goal.returns-clause-moved
returns-clause-moved c = moved_ready _ _ _ _ _ _ _ c.make_ready.ensures.ready c.evacuate_set.ensures.evacuates
