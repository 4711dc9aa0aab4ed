use Rattle.crossbeam_queue.specs.Passes.{IsPassOf}
use Rattle.mutators.proofs.threads.room_of.Given as goal

abbrev pub invariant-loop-place : goal.invariant-loop-place
invariant-loop-place g l = IsPassOf l.queue l.pass
