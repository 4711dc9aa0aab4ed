use Rattle.std.proofs.Common.{◌∙◌, ◌+◌, ◌*◌, ◌≤◌, ℕ, ap₂, sym, subst, arith}
use Rattle.heap_walk.specs.Starts.{IsTileFrom}
use Rattle.heap_walk.proofs.TileStarts.{none_there, above_holder, above_top, number_small, within}
use Rattle.heap_walk.proofs.starts.tile_from.Goals as goal

pub returns-then-word-region_count : goal.returns-then-word-region_count
returns-then-word-region_count c =
    none_there c.args.table.now c.args.at c.law.ensures
    (subst (λ (n : ℕ). n ≤ c.args.at) (ap₂ (λ (m n : ℕ). m * n) c.region_count.ensures c.words_per_region.ensures)
    (subst (λ (n : ℕ). c.region_count.result * c.words_per_region.result ≤ n) c.word.ensures c.if-word-region_count.true))

pub overflow_add-number : goal.overflow_add-number
overflow_add-number c =
    omega (
      arith,
      number_small c.args.table.now c.args.at c.number.result c.law.ensures
          (within c.args.at _ _ _ _ _ c.word.ensures c.region_count.ensures c.words_per_region.ensures c.if-word-region_count.false)
          (c.number.ensures ∙ c.region_of.ensures),
    )

pub returns-else-word : goal.returns-else-word
returns-else-word c =
    above_holder c.args.table.now c.args.at c.law.ensures c.in-Some.first c.tile_above.result c.in-Some.ensures.holder
    (λ e. c.if-word.false (c.word-in-Some.ensures ∙ e ∙ sym c.word-in-Some-2.ensures))
    c.tile_above.ensures

pub returns-in-None : goal.returns-in-None
returns-in-None c =
    above_top c.args.table.now c.args.at c.law.ensures c.tile_of_regions.result
    (λ h. let none = c.in-None.ensures.found.1 h in absurd {A = ⊥} (cc))
    (subst (λ (n : ℕ). IsTileFrom c.args.table.now ((n + 1) * c.args.table.now.words_per_region) c.tile_of_regions.result)
    (c.number.ensures ∙ c.region_of.ensures) c.tile_of_regions.ensures)
