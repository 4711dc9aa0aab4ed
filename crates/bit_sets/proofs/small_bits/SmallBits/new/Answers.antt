use Rattle.bit_sets.proofs.BitWords.{flags_of_zeros}
use Rattle.bit_sets.proofs.small_bits.SmallBits.new.Goals as goal

pub returns : goal.returns
returns c = flags_of_zeros _ _ _ (c.in_ok-words.ensures.items_if_clones_equal (λ y e. e))
