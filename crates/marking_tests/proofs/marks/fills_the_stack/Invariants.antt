-- Fingers, the stack and the held object tell of all grey objects throughout.
use Rattle.std.proofs.Common.{◌≡◌, length, List, Bool}
use Rattle.mark_bitmap.specs.Grey.{Scans, HasFingers}
use Rattle.marking_tests.proofs.marks.fills_the_stack.Given as goal

pub record Tells (marks : List Bool) (grey : Scans) : Type 0 where
  pub marked_flags : length marks ≡ 200
  pub scanned_flags : length grey.scanned ≡ 200
  pub fingers : HasFingers marks grey

abbrev pub invariant-loop-at : goal.invariant-loop-at
invariant-loop-at g l = Tells l.marks l.grey

abbrev pub invariant-loop-from_last : goal.invariant-loop-from_last
invariant-loop-from_last g l = Tells l.marks l.grey

abbrev pub invariant-loop-at-2 : goal.invariant-loop-at-2
invariant-loop-at-2 g l = Tells l.marks l.grey
