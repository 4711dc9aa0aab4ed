use Rattle.std.proofs.Common.{sym}
use Rattle.bit_sets.proofs.BitWords.{length-flags_of}
use Rattle.bit_sets.proofs.bits.Bits.len.Goals as goal

pub returns : goal.returns
returns c = rw (← c.self.view_is) (sym (length-flags_of _ _))
