use Rattle.std.proofs.Common.{rules, ◌≡◌, ◌-◌, ◌∙◌, ℕ, Option, None, replicate, ap, arith}
use Rattle.root_table.proofs.Nils.{with_words}
use Rattle.root_table.proofs.Apart.{all_nil, new_table}
use Rattle.root_table.proofs.table.Roots.new.Goals as goal

pub invariant_of-result : goal.invariant_of-result
invariant_of-result c =
    let left : c.in_ok-vec.field-0.items ≡ replicate {A = Option ℕ} c.globals-globals.result None = search rules in
    let right : c.in_ok-vec-2.field-0.items ≡ replicate {A = Option ℕ} (c.count-count.result - c.globals-globals.result) None =
    search rules in
    new_table _ _ _ _ (c.count-count.result - c.globals-globals.result)
    (left ∙ ap (λ (n : ℕ). replicate {A = Option ℕ} n None) c.globals-globals.ensures) right
    (omega (arith, c.count-count.ensures, c.globals-globals.ensures))
    (omega (arith, c.count-count.ensures, c.if-count.false)) (omega (arith, c.mutators.ensures, c.if-mutators-gt64.false))
    c.none_used.ensures

pub returns : goal.returns
returns c =
    let left : c.in_ok-vec.field-0.items ≡ replicate {A = Option ℕ} c.globals-globals.result None = search rules in
    let right : c.in_ok-vec-2.field-0.items ≡ replicate {A = Option ℕ} (c.count-count.result - c.globals-globals.result) None =
    search rules in
    ap (with_words (record { places = c.args.places; words = c.in_ok-vec.field-0.items }))
    (all_nil c.args.places c.in_ok-vec.field-0.items c.in_ok-vec-2.field-0.items (c.count-count.result - c.globals-globals.result)
    (left ∙ ap (λ (n : ℕ). replicate {A = Option ℕ} n None) c.globals-globals.ensures) right
    (omega (arith, c.count-count.ensures, c.globals-globals.ensures)))
