-- A step of the collector leaves two regions free where two were.
use Rattle.std.proofs.Common.{◌≡◌, ◌≤◌, ◌∙◌, ℕ, length, inl, inr, sym, ap, subst, arith}
use Rattle.regions.specs.Table.{Table, free_count}
use Rattle.regions.specs.Shaped.{IsShaped}
use Rattle.heap_words.specs.declared.config.Config.{Config}
use Rattle.step_core.specs.Steps.{CollectorStep, Reply}
use Rattle.heap_steps.specs.declared.step.CollectorStep.TheVariants as collector
use Rattle.step_core.specs.Stands.{CoreState, IsCore}
use Rattle.step_core.specs.Cycle.{Collects, HasSettled}
use Rattle.collection.proofs.Settled.{free_looked, free_settled, next_settled, once_free, once_next}
use Rattle.step_core.specs.declared.candidates.Choice.{Choice}
use Rattle.step_core.specs.declared.candidates.Choice.TheVariants as choices
use Rattle.step_core.specs.Pause.{HasMoved}
use Rattle.collection.proofs.Packed.{two_free}
use Rattle.collection.proofs.Slides.{compacted_free, compacted_next}
use Rattle.collection.proofs.Cycles.{begin_free, remark_free, clean_free}

pub same_length : (c d : CoreState) → IsCore c → IsCore d → d.config ≡ c.config → length d.table.regions ≡ length c.table.regions
same_length c d p q e = q.layers.region_count ∙ ap (λ (x : Config). x.regions) e ∙ sym p.layers.region_count

module _ (c d : CoreState) (shape : IsShaped c.table) (len : length d.table.regions ≡ length c.table.regions) where
  same_table : d.table ≡ c.table → d.next ≡ c.next → (2 ≤ free_count c.table → 2 ≤ free_count d.table) × (d.next ≡ c.next)
  same_table e next = (λ two. subst (λ (t : Table). 2 ≤ free_count t) (sym e) two, next)

  moved : (which : Choice) (b n w : ℕ) (e : CoreState) → HasSettled c e → HasMoved which b n w e d
      → (2 ≤ free_count c.table → 2 ≤ free_count d.table) × (d.next ≡ c.next)
  moved which b n w e z h = (
    λ two. two_free which b n w e d z.shaped h (let f = free_settled c e z in omega (arith, two, f)),
    ap (λ (x : CoreState). x.next) h.evacuates.same ∙ ap (λ (x : CoreState). x.next) h.is_ready.same ∙ next_settled c e z,
  )

  -- and it gives no name
  pub leaves : (k : CollectorStep) (r : Reply) → Collects k r c d → (2 ≤ free_count c.table → 2 ≤ free_count d.table) × (d.next ≡ c.next)
  leaves collector.Begin r (inl h) = (
    λ two. (let e = begin_free h.2.0 d h.2.2 in let f = free_settled c h.2.0 h.2.1 in omega (arith, e, f, two)),
    ap (λ (x : CoreState). x.next) h.2.2.same ∙ next_settled c h.2.0 h.2.1,
  )
  leaves (collector.Mark k) r (inl h) = same_table (ap (λ (x : CoreState). x.table) h.2.same) (ap (λ (x : CoreState). x.next) h.2.same)
  leaves collector.Remark r (inl (_, n, is, e, h, o)) = (
    λ two. (let p = remark_free n c e h in let q = once_free c.config.format e d o in omega (arith, p, q, two)),
    once_next c.config.format e d o ∙ ap (λ (x : CoreState). x.next) h.same,
  )
  leaves collector.Cleanup r (inl (_, n, is, h)) = (
    λ two. (let p = clean_free n h.0 d h.2 (len ∙ sym h.1.cleared.count) in let q = free_settled c h.0 h.1 in omega (arith, p, q, two)),
    ap (λ (x : CoreState). x.next) h.2.changes.same ∙ next_settled c h.0 h.1,
  )
  leaves (collector.Refine k) r h = same_table (ap (λ (x : CoreState). x.table) h.2.same) (ap (λ (x : CoreState). x.next) h.2.same)
  leaves (collector.Pause b) r h = moved choices.Best b h.0 h.1 h.3.0 h.3.1 h.3.2
  leaves (collector.Compact b) r h = (
    λ two. compacted_free b h.0 h.1 h.3.0 d h.3.1.core h.3.1.shaped h.3.2 (let f = free_settled c h.3.0 h.3.1 in omega (arith, two, f)),
    compacted_next b h.0 h.1 h.3.0 d h.3.1.core h.3.1.shaped h.3.2 ∙ next_settled c h.3.0 h.3.1,
  )
  leaves (collector.PauseWithin limits) r h = moved (choices.Within limits.cards) limits.words h.0 h.1 h.3.0 h.3.1 h.3.2
  leaves (collector.Young limits) r h = moved (choices.Youngest limits.cards) limits.words h.0 h.1 h.3.0 h.3.1 h.3.2
  leaves (collector.Clear k) r h = (
    λ two. (let q = free_looked k h.1 c d h.2 in omega (arith, q, two)),
    ap (λ (x : CoreState). x.next) h.2.same,
  )
  leaves _ r (inr h) = same_table (ap (λ (x : CoreState). x.table) h.1.same) (ap (λ (x : CoreState). x.next) h.1.same)
