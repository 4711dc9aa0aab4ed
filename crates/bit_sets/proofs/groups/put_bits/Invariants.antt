use Rattle.std.proofs.Common.{◌≡◌, ◌*◌, min, length}
use Rattle.bit_sets.proofs.BitRanges.{IsDoneUpTo, put_in}
use Rattle.bit_sets.proofs.groups.put_bits.Given as goal

abbrev pub invariant-loop-index : goal.invariant-loop-index
invariant-loop-index l = record {
  len : length l.words ≡ length l.initial.words;
  bits : IsDoneUpTo (put_in l.value l.initial.words) l.words l.from (min l.to (64 * l.index));
}
