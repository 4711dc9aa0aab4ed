use Rattle.std.proofs.Common.{arith}
use Rattle.bit_sets.proofs.BitWords.{len_is}
use Rattle.bit_sets.proofs.LowestBits.{alone_found, some_below}
use Rattle.bit_sets.proofs.bits.Bits.lowest_without.Goals as goal

pub get-requires : goal.get-requires
get-requires c = omega (arith, c.requires.known, c.self.invariant, len_is _ _ _ c.self.view_is)

pub get-requires-2 : goal.get-requires-2
get-requires-2 c = omega (arith, c.requires.known, c.requires.even, c.other.invariant, len_is _ _ _ c.other.view_is)

pub returns-clause-lowest : goal.returns-clause-lowest
returns-clause-lowest c =
    alone_found _ _ c.self.inside.words c.other.inside.words c.self.inside.len c.other.inside.len _ c.get.result c.get-2.result _
    c.self.view_is c.other.view_is c.requires.even c.get.ensures c.get-2.ensures (omega arith) (omega arith)
    c.lowest_if_any.ensures.lowest c.lowest_if_any.ensures.below

pub returns-clause-within : goal.returns-clause-within
returns-clause-within c = some_below _ _ _ c.lowest_if_any.ensures.below (omega (arith, len_is _ _ _ c.self.view_is))
