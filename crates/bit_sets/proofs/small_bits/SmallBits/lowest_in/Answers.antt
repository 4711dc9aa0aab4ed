use Rattle.std.proofs.Common.{arith}
use Rattle.std.proofs.lemmas.List.{get_or_read}
use Rattle.bit_sets.proofs.BitWords.{len_is, group_inside}
use Rattle.bit_sets.proofs.LowestBits.{group_word, bits_agree, group_found, some_below}
use Rattle.bit_sets.proofs.small_bits.SmallBits.lowest_in.Goals as goal

pub index-requires : goal.index-requires
index-requires c =
    omega (arith, group_inside _ _ _ c.args.group c.self.view_is c.self.invariant c.requires, c.self.inside.words.ok.0)

pub returns-clause-lowest : goal.returns-clause-lowest
returns-clause-lowest c =
    let inside = group_inside _ _ _ c.args.group c.self.view_is c.self.invariant c.requires in
    let w = group_word c.self.inside.words.items c.args.group c.index.result.now
    (get_or_read c.self.inside.words.items _ _ inside c.index.ensures 0) (omega arith) in
    group_found _ _ _ _ _ _ (bits_agree _ _ _ c.self.view_is) w c.lowest_if_any.ensures.lowest c.lowest_if_any.ensures.below

pub returns-clause-within : goal.returns-clause-within
returns-clause-within c = some_below _ _ _ c.lowest_if_any.ensures.below (omega (arith, len_is _ _ _ c.self.view_is))
