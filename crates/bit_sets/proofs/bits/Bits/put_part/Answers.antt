use Rattle.std.proofs.Common.{◌≤◌, arith, sym, ◌∙◌}
use Rattle.bit_sets.proofs.BitWords.{len_is, length-flags_of}
use Rattle.bit_sets.proofs.BitRanges.{flags_put}
use Rattle.bit_sets.proofs.bits.Bits.put_part.Goals as goal

pub put_bits-requires : goal.put_bits-requires
put_bits-requires c = omega (arith, c.requires, c.self.invariant, len_is _ _ _ c.self.view_is)

pub returns-clause-len : goal.returns-clause-len
returns-clause-len c = rw (← c.self.view_is) (length-flags_of _ _ ∙ sym (length-flags_of _ _))

pub returns-clause-flags : goal.returns-clause-flags
returns-clause-flags c =
    let short : c.args.to ≤ c.self.inside.len =
    omega (arith, c.requires, len_is _ _ _ c.self.view_is) in
    flags_put c.args.value c.args.self.now c.self.inside.words _ c.self.inside.len c.args.from c.args.to c.self.view_is short
    c.put_bits.ensures.bits
