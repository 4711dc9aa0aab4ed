use Rattle.std.proofs.Common.{◌∙◌, ℕ, List, Bool, true, not, set, sym, ap, arith, refl}
use Rattle.bit_sets.specs.Bits.{has}
use Rattle.bit_sets.specs.BitWords.{flags_of}
use Rattle.bit_sets.proofs.BitWords.{number_inside, flags_of-set, has-flags_of}
use Rattle.bit_sets.proofs.Written.{same_set, either_way, not_false}
use Rattle.bit_sets.proofs.bits.Bits.insert.Goals as goal

pub insert-requires-clause-known : goal.insert-requires-clause-known
insert-requires-clause-known c = omega (arith, number_inside _ _ _ c.args.number c.self.view_is c.requires, c.self.invariant)

pub returns-clause-came : goal.returns-clause-came
returns-clause-came c =
    let n = number_inside _ _ _ c.args.number c.self.view_is c.requires in
    c.insert.ensures.came
    ∙ sym (ap not (ap (λ (l : List Bool). has l c.args.number) (sym c.self.view_is) ∙ has-flags_of _ _ c.args.number n))

pub returns-clause-same : goal.returns-clause-same
returns-clause-same c = λ e. ap (λ (ws : List ℕ). flags_of ws c.self.inside.len) (c.insert.ensures.same e) ∙ c.self.view_is

pub returns-clause-set : goal.returns-clause-set
returns-clause-set c =
    let n = number_inside _ _ _ c.args.number c.self.view_is c.requires in
    either_way c.insert.result
    (λ e. ap (λ (ws : List ℕ). flags_of ws c.self.inside.len) (c.insert.ensures.set e)
    ∙ flags_of-set c.self.inside.words _ _ c.args.number n (omega (arith, n, c.self.invariant)) refl
    ∙ ap (λ (flags : List Bool). set flags c.args.number true) c.self.view_is)
    (λ e. ap (λ (ws : List ℕ). flags_of ws c.self.inside.len) (c.insert.ensures.same e)
    ∙ same_set c.self.inside.words _ c.args.number n (not_false _ (sym e ∙ c.insert.ensures.came))
    ∙ ap (λ (flags : List Bool). set flags c.args.number true) c.self.view_is)
