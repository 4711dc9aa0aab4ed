use Rattle.std.proofs.Common.{arith}
use Rattle.bit_sets.proofs.BitWords.{len_is}
use Rattle.bit_sets.proofs.LowestBits.{none_at_all}
use Rattle.bit_sets.proofs.bits.Bits.next.Goals as goal

pub returns-clause-lowest : goal.returns-clause-lowest
returns-clause-lowest c = none_at_all c.args.self.now c.args.from c.self.inside.len c.next_below.result
    (omega (arith, len_is _ _ _ c.self.view_is)) c.next_below.ensures.lowest
