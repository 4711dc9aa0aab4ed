use Rattle.std.proofs.Common.{◌∙◌, ℕ, List, Bool, false, set, ap, arith, refl}
use Rattle.bit_sets.specs.BitWords.{flags_of}
use Rattle.bit_sets.proofs.BitWords.{number_inside, flags_of-remove}
use Rattle.bit_sets.proofs.bits.Bits.remove.Goals as goal

pub keep-requires : goal.keep-requires
keep-requires c = omega (arith, number_inside _ _ _ c.args.number c.self.view_is c.requires, c.self.invariant)

pub returns : goal.returns
returns c =
    let n = number_inside _ _ _ c.args.number c.self.view_is c.requires in
    ap (λ (ws : List ℕ). flags_of ws c.self.inside.len) c.keep.ensures
    ∙ flags_of-remove c.self.inside.words _ _ c.args.number n (omega (arith, n, c.self.invariant)) refl
    ∙ ap (λ (flags : List Bool). set flags c.args.number false) c.self.view_is
