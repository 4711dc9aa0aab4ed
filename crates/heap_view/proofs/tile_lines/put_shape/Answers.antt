use Rattle.std.proofs.Common.{subst}
use Rattle.std.specs.Prelude.{◌↔◌, IsSome, IsTrue}
use Rattle.regions.specs.declared.row.Shape.{Shape}
use Rattle.regions.specs.Table.{Table}
use Rattle.regions.specs.Walks.{IsPlacedTile}
use Rattle.mark_bitmap.specs.Kept.{kept_in}
use Rattle.refinement.proofs.Holders.{shape_object}
use Rattle.marker.specs.declared.marker.Marker.{Marker}
use Rattle.step_core.specs.Stands.{kept_of}
use Rattle.heap_view.proofs.tile_lines.put_shape.Goals as goal

pub put_object-requires-clause-object : goal.put_object-requires-clause-object
put_object-requires-clause-object c = shape_object c.args.core.now.table c.args.at _ _ _
    (subst (λ (s : Shape). IsPlacedTile c.args.core.now.table c.args.at s) c.in-Object.is c.requires)

pub put_object-requires-clause-kept : goal.put_object-requires-clause-kept
unfolding kept_of
put_object-requires-clause-kept c =
    let kept = subst (λ (t : Table). IsTrue c.is_kept-kept.result
    ↔ IsSome (kept_in t c.marker-marker.result.now.tams c.marker-marker.result.now.bitmaps.previous c.args.at))
    c.table.ensures c.is_kept-kept.ensures in
    subst (λ (m : Marker). IsTrue c.is_kept-kept.result ↔ IsSome (kept_in c.args.core.now.table m.tams m.bitmaps.previous c.args.at))
    c.marker-marker.ensures kept
