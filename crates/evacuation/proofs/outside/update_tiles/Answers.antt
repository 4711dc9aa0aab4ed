use Rattle.std.proofs.Common.{◌∙◌, ℕ, sym, ap, refl, arith, ◌<◌, ◌+◌, ◌*◌, ◌/◌, ◌-◌}
use Rattle.regions.specs.Table.{tile_in}
use Rattle.regions.proofs.Words.Divides.{div_high}
use Rattle.refinement.proofs.Scanned.{tile_words}
use Rattle.evacuation.specs.Space.{flag}
use Rattle.evacuation.proofs.Turns.Following.{goes_further, stays_on}
use Rattle.evacuation.proofs.Loops.OutsideCards.{onward, clean_next, clean_last, clean_over, placed_tile, region_by}
use Rattle.regions.proofs.Tiles.Steps.{some_tile}
use Rattle.evacuation.proofs.outside.update_tiles.Goals as goal

smaller : (end at next : ℕ) → at < next → next < end → end - next < end - at
smaller end at next u h = omega arith

pub tiles-init : goal.tiles-init
tiles-init g c =
    let (stands, (kept, (place, (outside, (holder, last))))) = c.requires in
    record {
      on = stays_on stands;
      tile = some_tile (tile_in c.args.table.now c.args.first) holder.tile holder.tile_is;
      region = refl;
      clean = λ visited b i v e h. absurd (let o = (onward g.pause stands.premises c.args.place.card c.args.table.now
          c.args.context.now.destinations stands.turn c.law.ensures c.args.first holder visited b i v e).0 in
          omega arith);
    }

pub overflow_add-past : goal.overflow_add-past
overflow_add-past g c =
    let tile = placed_tile c.tiles.table c.tiles.at c.tile-shape.result c.tiles.invariant.tile c.tile-shape.ensures in
    let within = c.law-in-tiles.ensures.within c.tiles.at tile.tile tile.tile_is in
    let size = tile_words c.tile-shape.result tile.tile c.size.result tile.shape_is c.size.ensures in
    omega (arith, within, size, c.word.ensures, c.law-in-tiles.ensures.in_all)

pub update_small-requires : goal.update_small-requires
update_small-requires g c =
    let (stands, (kept, (place, (outside, (holder, last))))) = c.requires in
    let v = c.tiles.invariant in
    let tile = placed_tile c.tiles.table c.tiles.at c.tile-shape.result v.tile c.tile-shape.ensures in
    (v.on.stands, (kept, (place, (ap (flag g.pause.chosen) v.region ∙ outside, tile))))

pub tiles-smaller : goal.tiles-smaller
tiles-smaller g c =
    let (stands, (kept, (place, (outside, (holder, last))))) = c.requires in
    let v = c.tiles.invariant in
    let n = c.in-Some.ensures.next in
    let r = region_by c.in-Some.next c.tiles.at g.pause.start.words_per_region c.update_small.new.table.words_per_region
    (sym c.update_small.ensures.goes_on.stands.turn.table.size) n.region in
    let high = div_high c.in-Some.next g.pause.start.words_per_region (c.args.first / g.pause.start.words_per_region)
    stands.premises.shaped.positive (r ∙ v.region) in
    let up = n.above in
    smaller (c.args.first / g.pause.start.words_per_region * g.pause.start.words_per_region
    + g.pause.start.words_per_region) c.tiles.at c.in-Some.next up high

pub tiles-preserved : goal.tiles-preserved
tiles-preserved g c =
    let (stands, (kept, (place, (outside, (holder, last))))) = c.requires in
    let v = c.tiles.invariant in
    let on = c.update_small.ensures.goes_on in
    let n = c.in-Some.ensures.next in
    let r = region_by c.in-Some.next c.tiles.at g.pause.start.words_per_region c.update_small.new.table.words_per_region
    (sym on.stands.turn.table.size) n.region in
    record {
      on = goes_further v.on on;
      tile = n.tile;
      region = r ∙ v.region;
      clean = λ visited. clean_next g.pause stands.premises c.args.place.card c.tiles.table c.update_small.new.table c.tiles.context
          c.update_small.new.context v.on.stands on visited c.tiles.at (v.clean visited) (c.update_small.ensures.clean visited)
          c.in-Some.next n;
    }

pub returns-then-past-end : goal.returns-then-past-end
returns-then-past-end g c =
    let (stands, (kept, (place, (outside, (holder, last))))) = c.requires in
    let v = c.tiles.invariant in
    let on = c.update_small.ensures.goes_on in
    let tile = placed_tile c.tiles.table c.tiles.at c.tile-shape.result v.tile c.tile-shape.ensures in
    let size = tile_words c.tile-shape.result tile.tile c.size.result tile.shape_is c.size.ensures in
    record {
      goes_on = goes_further v.on on;
      clean = λ visited. clean_over g.pause stands.premises c.args.place.card c.tiles.table c.update_small.new.table c.tiles.context
          c.update_small.new.context v.on.stands on visited c.tiles.at (v.clean visited) (c.update_small.ensures.clean visited)
          c.law-in-tiles.ensures tile.tile tile.tile_is
          (let t = c.if-past-end.true in let w = c.word.ensures in omega (arith, last, t, w, size));
    }

pub returns-in_default : goal.returns-in_default
returns-in_default g c =
    let (stands, (kept, (place, (outside, (holder, last))))) = c.requires in
    let v = c.tiles.invariant in
    let on = c.update_small.ensures.goes_on in
    record {
      goes_on = goes_further v.on on;
      clean = λ visited. clean_last g.pause stands.premises c.args.place.card c.tiles.table c.update_small.new.table c.tiles.context
          c.update_small.new.context v.on.stands on visited c.tiles.at (v.clean visited) (c.update_small.ensures.clean visited)
          c.in_default.ensures.last
          (λ b i w e.
          let o = (onward g.pause stands.premises c.args.place.card c.args.table.now c.args.context.now.destinations stands.turn
          c.law.ensures c.args.first holder visited b i w e).1 in
          let s = region_by b c.args.first g.pause.start.words_per_region c.args.table.now.words_per_region
          (sym stands.turn.table.size) o in
          region_by b c.tiles.at c.update_small.new.table.words_per_region g.pause.start.words_per_region
          on.stands.turn.table.size (s ∙ sym v.region));
    }
