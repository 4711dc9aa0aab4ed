use Rattle.bit_sets.proofs.BitWords.{length-flags_of, flags_of_zeros}
use Rattle.bit_sets.proofs.bits.Bits.is_untouched.Goals as goal

pub returns : goal.returns
returns c = λ yes. rw (← c.self.view_is, length-flags_of) (flags_of_zeros _ _ _ (c.is_untouched.ensures yes))
