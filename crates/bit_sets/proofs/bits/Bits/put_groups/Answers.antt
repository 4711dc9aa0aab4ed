use Rattle.std.proofs.Common.{◌*◌, ◌≤◌, arith, sym, ◌∙◌}
use Rattle.bit_sets.proofs.BitWords.{len_is, length-flags_of}
use Rattle.bit_sets.proofs.BitRanges.{groups_put}
use Rattle.bit_sets.proofs.bits.Bits.put_groups.Goals as goal

pub fill-requires-clause-known : goal.fill-requires-clause-known
fill-requires-clause-known c = omega (arith, c.requires.within, c.self.invariant, len_is _ _ _ c.self.view_is)

pub returns-clause-len : goal.returns-clause-len
returns-clause-len c = rw (← c.self.view_is) (length-flags_of _ _ ∙ sym (length-flags_of _ _))

pub returns-clause-flags : goal.returns-clause-flags
returns-clause-flags c =
    let short : 64 * c.args.past ≤ c.self.inside.len =
    omega (arith, c.requires.within, len_is _ _ _ c.self.view_is) in
    groups_put c.args.value c.args.self.now c.self.inside.words c.fill.new.self c.self.inside.len c.args.first
    c.args.past c.whole_word.result c.self.view_is short c.whole_word.ensures c.fill.ensures.each
