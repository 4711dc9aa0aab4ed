use Rattle.std.proofs.Common.{◌<◌, sym, subst, length}
use Rattle.regions.specs.declared.row.Shape.{Shape}
use Rattle.regions.specs.Shaped.{IsShaped}
use Rattle.regions.specs.Walks.{IsPlacedTile}
use Rattle.refinement.proofs.Holders.{shape_within}
use Rattle.marker.specs.declared.marker.Marker.{Marker}
use Rattle.heap_dump.proofs.shares.is_grey.Goals as goal

pub get-requires : goal.get-requires
get-requires c =
    let known = c.law_remembers.ensures.core.layers.marker.next.each_word in
    let shaped = subst IsShaped c.table.ensures c.law.ensures in
    let there = subst (λ (s : Shape). IsPlacedTile c.args.core.now.table c.args.at s) c.in-Object.is c.requires in
    let word = shape_within c.args.core.now.table c.args.at _ _ _ (length c.args.core.now.marker.bitmaps.next) shaped known there in
    subst (λ (m : Marker). c.args.at < length m.bitmaps.next) (sym c.marker-marker.ensures) word
