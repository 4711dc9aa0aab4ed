use Rattle.std.proofs.Common.{◌≡◌, [], Some, length}
use Rattle.std.specs.Prelude.{All}
use Rattle.heap_life.proofs.moment_text.empty_texts.Given as goal

abbrev pub invariant-loop-number : goal.invariant-loop-number
invariant-loop-number l = record {
  size : length l.texts.items ≡ l._number;
  empty : All (λ text. text ≡ Some []) l.texts.items;
}
