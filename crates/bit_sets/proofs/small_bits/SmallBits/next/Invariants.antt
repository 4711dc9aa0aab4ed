use Rattle.std.proofs.Common.{◌*◌}
use Rattle.bit_sets.specs.Bits.{HasNoneBelow}
use Rattle.bit_sets.specs.BitWords.{bit_of}
use Rattle.bit_sets.proofs.small_bits.SmallBits.next.Given as goal

abbrev pub invariant-loop-index : goal.invariant-loop-index
invariant-loop-index l = HasNoneBelow (bit_of l.self-inside.words.items) l.fn.from (64 * l.index)
