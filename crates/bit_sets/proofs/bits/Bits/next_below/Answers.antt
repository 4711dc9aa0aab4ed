use Rattle.std.proofs.Common.{arith}
use Rattle.bit_sets.proofs.BitWords.{len_is}
use Rattle.bit_sets.proofs.bits.Bits.next_below.Goals as goal

pub get-requires : goal.get-requires
get-requires c = omega (arith, c.if-from-end.true, c.min-end.ensures, len_is _ _ _ c.self.view_is)
