use Rattle.bit_sets.proofs.BitWords.{flags_of_zeros}
use Rattle.bit_sets.proofs.bits.Bits.new.Goals as goal

pub returns : goal.returns
returns c = flags_of_zeros _ _ _ c.in_ok-words.ensures
