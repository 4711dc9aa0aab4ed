use Rattle.std.proofs.Common.{◌≡◌, ◌*◌, ◌∙◌, ap, arith, false, replicate, ℕ, List, Bool}
use Rattle.remembered_sets.specs.Sharing.{four_filters}
use Rattle.remembered_sets.proofs.Sharing.{four_new}
use Rattle.remembered_sets.proofs.filter.Filter.new.Goals as goal

pub returns : goal.returns
returns c =
    let three : c.in-Some.all ≡ 3 * c.args.rows = omega (arith, c.in-Some.ensures) in
    let size : c.in-Some-checked_mul.size ≡ 3 * c.args.rows * c.args.cards_per_region =
    omega (arith, c.in-Some-checked_mul.ensures) ∙ ap (λ (n : ℕ). n * c.args.cards_per_region) three in
    let all : c.in-Some-checked_mul-2.count ≡ 4 * c.in-Some-checked_mul.size = omega (arith, c.in-Some-checked_mul-2.ensures) in
    ap (λ (l : List Bool). four_filters c.args.rows (replicate 4 false) l c.in-Some-checked_mul.size)
    (c.in_ok-flags.ensures ∙ ap (λ (n : ℕ). replicate n false) all)
    ∙ four_new c.args.rows c.args.cards_per_region c.in-Some-checked_mul.size size
