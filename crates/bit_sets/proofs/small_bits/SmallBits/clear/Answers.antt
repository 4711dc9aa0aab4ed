use Rattle.std.proofs.Common.{rules}
use Rattle.bit_sets.proofs.BitWords.{length-flags_of, flags_of_zeros}
use Rattle.bit_sets.proofs.small_bits.SmallBits.clear.Goals as goal

pub returns : goal.returns
returns c = rw (← c.self.view_is, length-flags_of) (flags_of_zeros _ _ _ (c.fill.ensures.items (λ y e. search rules)))
