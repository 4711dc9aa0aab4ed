use Rattle.std.proofs.Common.{◌≡◌, ◌≤◌, length}
use Rattle.bit_sets.proofs.PageWords.{AreFilled}
use Rattle.bit_sets.proofs.pages.fill_words.Given as goal

abbrev pub invariant-loop-index : goal.invariant-loop-index
invariant-loop-index l = record {
  low : l.from ≤ l.index;
  high : l.index ≤ l.to;
  len : length l.words ≡ length l.fn.words;
  each : AreFilled l.from l.value l.fn.words l.words l.index;
}
