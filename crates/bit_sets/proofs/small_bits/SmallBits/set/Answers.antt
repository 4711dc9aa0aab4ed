use Rattle.std.proofs.Common.{arith}
use Rattle.std.proofs.lemmas.List.{get_or_read}
use Rattle.bit_sets.proofs.BitWords.{flags_of-set, number_inside, word_inside}
use Rattle.bit_sets.proofs.small_bits.SmallBits.set.Goals as goal

pub index_mut-requires : goal.index_mut-requires
index_mut-requires c =
    omega (arith, word_inside _ _ _ c.args.number c.self.view_is c.self.invariant c.requires, c.self.inside.words.ok.0)

pub returns : goal.returns
returns c =
    let word = word_inside _ _ _ c.args.number c.self.view_is c.self.invariant c.requires in
    rw (← c.self.view_is)
    (flags_of-set _ _ _ _ (number_inside _ _ _ c.args.number c.self.view_is c.requires) word
    (get_or_read c.self.inside.words.items _ _ word c.index_mut.ensures.value 0))
