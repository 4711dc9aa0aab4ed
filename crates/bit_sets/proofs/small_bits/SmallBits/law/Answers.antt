use Rattle.std.proofs.Common.{arith}
use Rattle.bit_sets.proofs.BitWords.{len_is}
use Rattle.bit_sets.proofs.small_bits.SmallBits.law.Goals as goal

pub returns : goal.returns
returns c = omega (arith, len_is _ _ _ c.self.view_is)
