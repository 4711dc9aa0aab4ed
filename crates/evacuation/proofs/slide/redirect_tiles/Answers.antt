use Rattle.std.proofs.Common.{◌∙◌, ℕ, sym, refl, subst, arith, ◌<◌, ◌≤◌, ◌+◌, ◌*◌, ◌/◌, ◌-◌}
use Rattle.regions.specs.Table.{tile_in}
use Rattle.regions.specs.Walks.{IsHolder}
use Rattle.regions.proofs.Words.Divides.{div_high}
use Rattle.regions.proofs.Tiles.Steps.{some_tile}
use Rattle.refinement.proofs.Scanned.{tile_words}
use Rattle.evacuation.proofs.Loops.OutsideCards.{placed_tile, region_by}
use Rattle.evacuation.proofs.Slides.Redirecting.{stays_on, goes_further}
use Rattle.evacuation.proofs.Slides.Cards.{card_small, tile_still, none_below, none_next, none_over, none_last, unnamed_still}
use Rattle.evacuation.proofs.slide.redirect_tiles.Goals as goal

smaller : (end at next : ℕ) → at < next → next < end → end - next < end - at
smaller end at next u h = omega arith

pub overflow_mul-end : goal.overflow_mul-end
overflow_mul-end g c =
    let (stands, (kept, (way, (words, (known, holder))))) = c.requires in
    let a = card_small g.slide c.args.table.now c.args.noted.now c.args.card stands known in
    let s = c.law.ensures.in_all in
    rw words (omega (arith, a, s))

pub overflow_add-end : goal.overflow_add-end
overflow_add-end g c =
    let (stands, (kept, (way, (words, (known, holder))))) = c.requires in
    let a = card_small g.slide c.args.table.now c.args.noted.now c.args.card stands known in
    let s = c.law.ensures.in_all in
    rw words (omega (arith, a, s))

pub tiles-init : goal.tiles-init
tiles-init g c =
    let (stands, (kept, (way, (words, (known, holder))))) = c.requires in
    let holds : IsHolder c.args.table.now c.args.first (c.args.card * g.slide.card_words) =
    subst (λ (n : ℕ). IsHolder c.args.table.now c.args.first (c.args.card * n)) words holder in
    record {
      on = stays_on g.slide _ c.args.table.now c.args.noted.now stands;
      tile = some_tile (tile_in c.args.table.now c.args.first) holder.tile holder.tile_is;
      region = refl;
      unnamed = none_below g.slide c.args.table.now c.args.noted.now stands c.law.ensures c.args.card c.args.first holds;
    }

pub overflow_add-past : goal.overflow_add-past
overflow_add-past g c =
    let tile = placed_tile c.tiles.table c.tiles.at c.tile-shape.result c.tiles.invariant.tile c.tile-shape.ensures in
    let within = c.law-in-tiles.ensures.within c.tiles.at tile.tile tile.tile_is in
    let size = tile_words c.tile-shape.result tile.tile c.size.result tile.shape_is c.size.ensures in
    omega (arith, within, size, c.word.ensures, c.law-in-tiles.ensures.in_all)

pub redirect_tile-requires : goal.redirect_tile-requires
redirect_tile-requires g c =
    let (stands, (kept, (way, (words, (known, holder))))) = c.requires in
    let v = c.tiles.invariant in
    let tile = placed_tile c.tiles.table c.tiles.at c.tile-shape.result v.tile c.tile-shape.ensures in
    let same = v.on.stands.each_card in
    let was = stands.each_card in
    (v.on.stands, (kept, (way, (words, (omega (arith, known, same, was), tile)))))

pub next_tile-requires : goal.next_tile-requires
next_tile-requires g c =
    tile_still g.slide c.tiles.table c.redirect_tile.new.table c.tiles.at c.redirect_tile.ensures.goes_on.table c.tiles.invariant.tile

pub tiles-smaller : goal.tiles-smaller
tiles-smaller g c =
    let (stands, (kept, (way, (words, (known, holder))))) = c.requires in
    let v = c.tiles.invariant in
    let n = c.in-Some.ensures.next in
    let size = c.redirect_tile.ensures.goes_on.stands.size in
    let r = region_by c.in-Some.next c.tiles.at g.slide.words c.redirect_tile.new.table.words_per_region (sym size) n.region in
    let z : 0 < g.slide.words = (let p = c.law.ensures.positive in let s = stands.size in omega (arith, p, s)) in
    let high = div_high c.in-Some.next g.slide.words (c.args.first / g.slide.words) z (r ∙ v.region) in
    smaller (c.args.first / g.slide.words * g.slide.words + g.slide.words) c.tiles.at c.in-Some.next n.above high

pub tiles-preserved : goal.tiles-preserved
tiles-preserved g c =
    let (stands, (kept, (way, (words, (known, holder))))) = c.requires in
    let v = c.tiles.invariant in
    let on = c.redirect_tile.ensures.goes_on in
    let n = c.in-Some.ensures.next in
    let r = region_by c.in-Some.next c.tiles.at g.slide.words c.redirect_tile.new.table.words_per_region (sym on.stands.size) n.region in
    record {
      on = goes_further g.slide _ c.args.table.now c.tiles.table c.redirect_tile.new.table c.args.noted.now c.tiles.noted
          c.redirect_tile.new.noted v.on on;
      tile = n.tile;
      region = r ∙ v.region;
      unnamed = none_next g.slide c.redirect_tile.new.table c.args.card c.tiles.at c.redirect_tile.ensures.unnamed
          (unnamed_still g.slide stands.apart c.tiles.table c.redirect_tile.new.table on.table c.args.card c.tiles.at v.unnamed)
          c.in-Some.next n;
    }

pub returns-then-past-end-clause-goes_on : goal.returns-then-past-end-clause-goes_on
returns-then-past-end-clause-goes_on g c =
    goes_further g.slide _ c.args.table.now c.tiles.table c.redirect_tile.new.table c.args.noted.now c.tiles.noted
    c.redirect_tile.new.noted c.tiles.invariant.on c.redirect_tile.ensures.goes_on

pub returns-then-past-end-clause-unnamed : goal.returns-then-past-end-clause-unnamed
returns-then-past-end-clause-unnamed g c =
    let (stands, (kept, (way, (words, (known, holder))))) = c.requires in
    let v = c.tiles.invariant in
    let on = c.redirect_tile.ensures.goes_on in
    let tile = placed_tile c.tiles.table c.tiles.at c.tile-shape.result v.tile c.tile-shape.ensures in
    let size = tile_words c.tile-shape.result tile.tile c.size.result tile.shape_is c.size.ensures in
    let below = v.unnamed in
    let past : c.args.card * g.slide.card_words + g.slide.card_words ≤ c.word.result + c.size.result =
    rw words at c.if-past-end.true in
    none_over g.slide c.redirect_tile.new.table c.args.card c.tiles.at c.redirect_tile.ensures.unnamed
    (unnamed_still g.slide stands.apart c.tiles.table c.redirect_tile.new.table on.table c.args.card c.tiles.at v.unnamed)
    c.tiles.table c.tiles.noted v.on.stands c.law-in-tiles.ensures on.table tile.tile tile.tile_is
    (let w = c.word.ensures in omega (arith, past, w, size))

pub returns-in_default-clause-goes_on : goal.returns-in_default-clause-goes_on
returns-in_default-clause-goes_on g c =
    goes_further g.slide _ c.args.table.now c.tiles.table c.redirect_tile.new.table c.args.noted.now c.tiles.noted
    c.redirect_tile.new.noted c.tiles.invariant.on c.redirect_tile.ensures.goes_on

pub returns-in_default-clause-unnamed : goal.returns-in_default-clause-unnamed
returns-in_default-clause-unnamed g c =
    let (stands, (kept, (way, (words, (known, holder))))) = c.requires in
    let v = c.tiles.invariant in
    let on = c.redirect_tile.ensures.goes_on in
    let holds : IsHolder c.args.table.now c.args.first (c.args.card * g.slide.card_words) =
    subst (λ (n : ℕ). IsHolder c.args.table.now c.args.first (c.args.card * n)) words holder in
    none_last g.slide c.redirect_tile.new.table c.args.card c.tiles.at c.redirect_tile.ensures.unnamed
    (unnamed_still g.slide stands.apart c.tiles.table c.redirect_tile.new.table on.table c.args.card c.tiles.at v.unnamed)
    c.args.table.now c.args.noted.now stands c.law.ensures
    (goes_further g.slide _ c.args.table.now c.tiles.table c.redirect_tile.new.table c.args.noted.now c.tiles.noted
    c.redirect_tile.new.noted v.on on).table c.args.first holds v.region on.stands.size c.in_default.ensures.last
