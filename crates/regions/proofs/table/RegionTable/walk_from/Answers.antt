use Rattle.std.proofs.Common.{◌≡◌, ◌/◌, ◌%◌, ◌-◌, ◌*◌, ◌<◌, ℕ, ◌∙◌, arith}
use Rattle.regions.proofs.Walks.WalkFrom.{begins, tile_region}
use Rattle.regions.proofs.table.RegionTable.walk_from.Goals as goal

rest_is : (a w x k n : ℕ) → 0 < w → x ≡ a → k ≡ a / w → n ≡ w → x - k * n ≡ a % w
rest_is a w x k n z e f g = rw (e, f, g) (omega arith)

pub tile_words-end-requires : goal.tile_words-end-requires
tile_words-end-requires c =
    let e = c.region_of-region.ensures in
    let k = tile_region _ _ c.requires in
    omega (arith, k, e)

pub invariant_of-result : goal.invariant_of-result
invariant_of-result c =
    let e = c.region_of-region.ensures in
    let offset : c.word.result - c.number.result * c.words_per_region.result ≡ c.args.at % c.args.self.now.words_per_region =
    rest_is c.args.at c.args.self.now.words_per_region _ _ _ c.law.ensures.positive c.word.ensures
    (c.number.ensures ∙ e) c.words_per_region.ensures in
    begins _ c.args.at _ _ _ c.requires e offset c.tile_words-end.ensures
