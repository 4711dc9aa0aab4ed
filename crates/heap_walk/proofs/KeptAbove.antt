-- The lowest kept object from an address on, by the lowest tile from there on.
use Rattle.std.proofs.Common.{ℕ, ◌≤◌, Option, Some, None, arith, inl, inr}
use Rattle.std.proofs.lemmas.Bool.{cases_lt}
use Rattle.regions.specs.Shaped.{IsShaped}
use Rattle.step_core.specs.Stands.{CoreState}
use Rattle.heap_walk.specs.Starts.{IsTileFrom, place_of}
use Rattle.heap_walk.specs.Kept.{IsKeptFrom}
use Rattle.heap_walk.proofs.Keeping.{kept_tile}
use Rattle.heap_walk.proofs.Placing.{onward}
use Rattle.heap_walk.proofs.TileStarts.{tile_below}

module _ (c : CoreState) (g : IsShaped c.table) (from : ℕ) where
  above : (tile : Option ℕ) (b : ℕ) → IsTileFrom c.table from tile → IsKeptFrom c (place_of c.table tile) (Some b) → from ≤ b
  above None b t k = let low = k.above in let within = tile_below c.table b g (kept_tile c b k.kept) in absurd (omega (arith, low, within))
  above (Some a) b t k = let low = k.above in let high = t.above in omega (arith, low, high)

  pub kept_on : (tile : Option ℕ) → IsTileFrom c.table from tile → (r : Option ℕ) → IsKeptFrom c (place_of c.table tile) r
      → IsKeptFrom c from r
  kept_on tile t None k = λ x low some. elim (cases_lt x (place_of c.table tile)) [
    | inl lt ↦ onward c from tile t x low lt some
    | inr ge ↦ k x ge some
  ]
  kept_on tile t (Some b) k = record {
    above = above tile b t k;
    kept = k.kept;
    between = λ x low high some. elim (cases_lt x (place_of c.table tile)) [
      | inl lt ↦ onward c from tile t x low lt some
      | inr ge ↦ k.between x ge high some
    ];
  }
