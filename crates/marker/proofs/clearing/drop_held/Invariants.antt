use Rattle.marker.proofs.HeldSlots.{IsDropping}
use Rattle.marker.proofs.clearing.drop_held.Given as goal

abbrev pub invariant-loop-slot : goal.invariant-loop-slot
invariant-loop-slot l = IsDropping l.fn.table l.table l.object l.slot
