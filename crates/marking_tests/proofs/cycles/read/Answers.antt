use Rattle.regions.proofs.Tiles.Made.{tile_some}
use Rattle.marker.proofs.Swept.{tile_is_object}
use Rattle.marking_tests.proofs.cycles.read.Goals as goal

pub field_count-requires : goal.field_count-requires
field_count-requires c = tile_is_object _ _ _ _ _ _ (tile_some _ _ _ c.in-Some.ensures.holder) c.tile.ensures c.in-Object.is
