use Rattle.std.proofs.Common.{◌∙◌, ◌+◌, ◌*◌, ℕ, subst, arith}
use Rattle.heap_walk.specs.Starts.{IsTileFrom}
use Rattle.heap_walk.proofs.TileStarts.{next_found, above_last, number_small, tile_below}
use Rattle.heap_walk.proofs.starts.tile_above.Goals as goal

pub returns-in-Some : goal.returns-in-Some
returns-in-Some c = next_found c.args.table.now c.args.at c.in-Some.next c.in-Some.ensures.next

pub overflow_add-number : goal.overflow_add-number
overflow_add-number c =
    omega (
      arith,
      number_small c.args.table.now c.args.at c.number.result c.law.ensures
          (tile_below c.args.table.now c.args.at c.law.ensures c.requires) (c.number.ensures ∙ c.region_of.ensures),
    )

pub returns-in-None : goal.returns-in-None
returns-in-None c =
    above_last c.args.table.now c.args.at c.law.ensures c.tile_of_regions.result c.in-None.ensures.last
    (subst (λ (n : ℕ). IsTileFrom c.args.table.now ((n + 1) * c.args.table.now.words_per_region) c.tile_of_regions.result)
    (c.number.ensures ∙ c.region_of.ensures) c.tile_of_regions.ensures)
