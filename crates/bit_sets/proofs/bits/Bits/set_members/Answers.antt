use Rattle.std.proofs.Common.{◌≡◌, ◌≤◌, ◌∙◌, arith, sym}
use Rattle.bit_sets.proofs.BitWords.{len_is, length-flags_of}
use Rattle.bit_sets.proofs.BitUnions.{flags_joined}
use Rattle.bit_sets.proofs.LowestBits.{same_len}
use Rattle.bit_sets.proofs.bits.Bits.set_members.Goals as goal

pub join_bits-requires : goal.join_bits-requires
join_bits-requires c =
    let even = len_is _ _ _ c.members.view_is in
    omega (arith, c.requires.within, c.self.invariant, len_is _ _ _ c.self.view_is, c.requires.even, c.members.invariant, even)

pub returns-clause-len : goal.returns-clause-len
returns-clause-len c = rw (← c.self.view_is) (length-flags_of _ _ ∙ sym (length-flags_of _ _))

pub returns-clause-flags : goal.returns-clause-flags
returns-clause-flags c =
    let even : c.members.inside.len ≡ c.self.inside.len = same_len _ _ _ _ _ _ c.self.view_is c.members.view_is c.requires.even in
    let short : c.args.to ≤ c.self.inside.len =
    omega (arith, c.requires.within, len_is _ _ _ c.self.view_is) in
    flags_joined c.args.self.now c.args.members.now c.members.inside.words c.self.inside.words _ c.self.inside.len
    c.members.inside.len c.args.from c.args.to c.self.view_is c.members.view_is even short c.join_bits.ensures.bits
