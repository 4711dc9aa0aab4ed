use Rattle.std.proofs.Common.{◌<◌, length, sym, arith, ◌∙◌}
use Rattle.bit_sets.proofs.BitWords.{number_inside, bit_read, has-flags_of}
use Rattle.bit_sets.proofs.bits.Bits.get.Goals as goal

pub get-requires : goal.get-requires
get-requires c = omega (arith, number_inside _ _ _ c.args.number c.self.view_is c.requires, c.self.invariant)

pub returns : goal.returns
returns c =
    let inside : c.args.number < length c.args.self.now = c.requires in
    rw (← c.self.view_is)
    (bit_read _ _ c.args.number c.get.ensures
    ∙ sym (has-flags_of _ _ c.args.number (number_inside _ _ _ c.args.number c.self.view_is inside)))
