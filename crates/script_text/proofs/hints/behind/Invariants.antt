use Rattle.std.proofs.Common.{◌≡◌, ◌≤◌, ◌+◌, ◌-◌, ℕ, List, Some, length, slice_get}
use Rattle.script_text.specs.Lines.{pieces_of}
use Rattle.script_text.proofs.hints.behind.Given as goal

abbrev pub invariant-loop-left : goal.invariant-loop-left
invariant-loop-left l = record {
  room : length l.words ≡ 12;
  bound : length l.rest ≤ length l.text;
  there : (k : ℕ) (p : List ℕ) → slice_get (pieces_of l.text) (l.line - 1 + k) ≡ Some p
      → slice_get (pieces_of l.rest) (l.left - 1 + k) ≡ Some p;
}

abbrev pub decreases-loop-left : goal.decreases-loop-left
decreases-loop-left l = l.left
