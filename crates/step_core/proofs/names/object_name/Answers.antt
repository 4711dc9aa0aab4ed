use Rattle.std.proofs.Common.{◌≡◌, ◌∙◌, ◌*◌, ◌/◌, ◌<◌, ◌≤◌, ℕ, false, true, ap, ap₂, sym, subst}
use Rattle.regions.specs.Table.{top_of}
use Rattle.step_core.specs.Stands.{name_of}
use Rattle.step_core.proofs.Objects.{none_past, none_held, none_inside}
use Rattle.step_core.proofs.names.object_name.Goals as goal

pub returns-then-word-region_count : goal.returns-then-word-region_count
returns-then-word-region_count c =
    let past = subst (λ (n : ℕ). n ≤ c.args.at)
    (ap₂ (λ (m n : ℕ). m * n) c.region_count.ensures c.words_per_region.ensures)
    (subst (λ (n : ℕ). c.region_count.result * c.words_per_region.result ≤ n) c.word.ensures c.if-word-region_count.true) in
    sym (ap name_of (none_past c.args.table.now c.args.at c.law.ensures past))

pub returns-in_default : goal.returns-in_default
returns-in_default c =
    let above = λ (h : c.args.at < top_of c.args.table.now (c.args.at / c.args.table.now.words_per_region)).
    let e : false ≡ true = c.in_default.ensures.found.1 h in absurd {A = ⊥} (cc) in
    sym (ap name_of (none_held c.args.table.now c.args.at c.law.ensures above))

pub returns-then-word : goal.returns-then-word
returns-then-word c =
    let other = λ (e : c.in-Some.first ≡ c.args.at). c.if-word.true (c.word-2.ensures ∙ e ∙ sym c.word-3.ensures) in
    sym (ap name_of (none_inside c.args.table.now c.in-Some.first c.args.at c.law.ensures c.in-Some.ensures.holder other))
