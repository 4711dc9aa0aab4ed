use Rattle.std.proofs.Common.{◌≡◌, ◌*◌, ◌&&◌, count_by}
use Rattle.std.specs.List.{range_with_len}
use Rattle.bit_sets.specs.Bits.{is_between}
use Rattle.bit_sets.specs.BitWords.{bit_of}
use Rattle.bit_sets.proofs.groups.count_bits.Given as goal

abbrev pub invariant-loop-index : goal.invariant-loop-index
invariant-loop-index l = l.count ≡ count_by (λ a. is_between l.from l.to a && bit_of l.words a) (range_with_len 0 (64 * l.index))
