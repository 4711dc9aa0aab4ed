use Rattle.std.proofs.Common.{◌∙◌, List, ap, sym, subst}
use Rattle.std.specs.List.{flat_map}
use Rattle.heap_words.specs.declared.addr.Addr.{Addr}
use Rattle.regions.specs.declared.row.Shape.{Shape}
use Rattle.regions.specs.Walks.{ArePlaced}
use Rattle.heap_dump.proofs.Putting.{leads_first, leads_on, leads_all}
use Rattle.heap_view.specs.Tiles.{tile_line}
use Rattle.heap_view.proofs.tile_lines.put_tiles.Goals as goal

pub loop-at-init : goal.loop-at-init
loop-at-init c =
    let is = c.into_iter-at-iterator.ensures.into_iter_gives in
    record {
      placed = subst (λ (l : List (Addr × Shape)). ArePlaced c.args.core.now.table l) (sym is) c.walk_region-at-items.ensures.placed;
      leads = leads_first _ _ _ (ap (flat_map (tile_line c.args.core.now)) (is ∙ c.walk_region-at-items.ensures.tiles));
    }

pub put_tile-requires : goal.put_tile-requires
put_tile-requires c =
    let placed = subst (λ (l : List (Addr × Shape)). ArePlaced c.args.core.now.table l) c.in-Some.ensures.steps c.loop-at.invariant.placed
    in
    placed.0

pub loop-at-preserved : goal.loop-at-preserved
loop-at-preserved c =
    let placed = subst (λ (l : List (Addr × Shape)). ArePlaced c.args.core.now.table l) c.in-Some.ensures.steps c.loop-at.invariant.placed
    in
    record {
      placed = placed.2;
      leads = leads_on _ _ _ _ _ _ _ (ap (flat_map (tile_line c.args.core.now)) c.in-Some.ensures.steps)
          c.loop-at.invariant.leads c.put_tile.ensures;
    }

pub returns : goal.returns
returns c =
    leads_all _ _ _ _ (ap (flat_map (tile_line c.args.core.now)) c.in-None.ensures.steps.0) c.loop-at.invariant.leads
