use Rattle.std.proofs.Common.{◌*◌, ◌≤◌, ◌∙◌, arith, sym, false}
use Rattle.std.proofs.lemmas.Nat.Bits.{bit_at-zero}
use Rattle.bit_sets.proofs.BitWords.{len_is, length-flags_of}
use Rattle.bit_sets.proofs.BitRanges.{groups_put}
use Rattle.bit_sets.proofs.bits.Bits.clear_groups.Goals as goal

pub clear_between-requires-clause-known : goal.clear_between-requires-clause-known
clear_between-requires-clause-known c = omega (arith, c.requires.within, c.self.invariant, len_is _ _ _ c.self.view_is)

pub returns-clause-len : goal.returns-clause-len
returns-clause-len c = rw (← c.self.view_is) (length-flags_of _ _ ∙ sym (length-flags_of _ _))

pub returns-clause-flags : goal.returns-clause-flags
returns-clause-flags c =
    let short : 64 * c.args.past ≤ c.self.inside.len =
    omega (arith, c.requires.within, len_is _ _ _ c.self.view_is) in
    groups_put false c.args.self.now c.self.inside.words c.clear_between.new.self c.self.inside.len c.args.first
    c.args.past 0 c.self.view_is short (λ j _. bit_at-zero j) c.clear_between.ensures.each
