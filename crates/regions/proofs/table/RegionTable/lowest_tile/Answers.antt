use Rattle.std.proofs.Common.{◌≡◌, ◌*◌, ◌∙◌, arith, subst, ℕ, Some, sym, refl}
use Rattle.regions.specs.Walks.{IsLowestTile}
use Rattle.regions.proofs.Tiles.Lowest.{none_lowest, some_lowest}
use Rattle.regions.proofs.table.RegionTable.lowest_tile.Goals as goal

product : (x w k s : ℕ) → x ≡ k → w ≡ s → x * w ≡ k * s
product x w k s e f = rw (e, f) refl

pub returns-then-tile_words-eq0 : goal.returns-then-tile_words-eq0
returns-then-tile_words-eq0 c = none_lowest _ _ _ c.tile_words.ensures c.if-tile_words-eq0.true

pub returns : goal.returns
returns c =
    let at = c.new.ensures ∙ product _ _ _ _ c.number.ensures c.words_per_region.ensures in
    subst (λ (n : ℕ). IsLowestTile c.args.self.now c.args.region (Some n)) (sym at)
    (some_lowest _ _ _ c.law.ensures c.tile_words.ensures (omega (arith, c.if-tile_words-eq0.false)))
