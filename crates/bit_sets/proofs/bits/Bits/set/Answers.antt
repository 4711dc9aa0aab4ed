use Rattle.std.proofs.Common.{◌∙◌, ℕ, List, Bool, true, set, ap, arith, refl}
use Rattle.bit_sets.specs.BitWords.{flags_of}
use Rattle.bit_sets.proofs.BitWords.{number_inside, flags_of-set}
use Rattle.bit_sets.proofs.bits.Bits.set.Goals as goal

pub join-requires : goal.join-requires
join-requires c = omega (arith, number_inside _ _ _ c.args.number c.self.view_is c.requires, c.self.invariant)

pub returns : goal.returns
returns c =
    let n = number_inside _ _ _ c.args.number c.self.view_is c.requires in
    ap (λ (ws : List ℕ). flags_of ws c.self.inside.len) c.join.ensures
    ∙ flags_of-set c.self.inside.words _ _ c.args.number n (omega (arith, n, c.self.invariant)) refl
    ∙ ap (λ (flags : List Bool). set flags c.args.number true) c.self.view_is
