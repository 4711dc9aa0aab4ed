use Rattle.std.proofs.Common.{◌∙◌, sym, arith}
use Rattle.std.proofs.lemmas.List.{get_or_read}
use Rattle.bit_sets.proofs.BitWords.{bit_read, has-flags_of, number_inside, word_inside}
use Rattle.bit_sets.proofs.small_bits.SmallBits.get.Goals as goal

pub index-requires : goal.index-requires
index-requires c =
    omega (arith, word_inside _ _ _ c.args.number c.self.view_is c.self.invariant c.requires, c.self.inside.words.ok.0)

pub returns : goal.returns
returns c =
    let word = word_inside _ _ _ c.args.number c.self.view_is c.self.invariant c.requires in
    rw (← c.self.view_is)
    (bit_read _ _ c.args.number (get_or_read c.self.inside.words.items _ _ word c.index.ensures 0)
    ∙ sym (has-flags_of _ _ c.args.number (number_inside _ _ _ c.args.number c.self.view_is c.requires)))
