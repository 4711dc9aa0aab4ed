use Rattle.region_tests.proofs.Samples.{is_object}
use Rattle.region_tests.proofs.pauses.field.Goals as goal
use Rattle.regions.proofs.Tiles.Made.{tile_some}

pub field_count-requires : goal.field_count-requires
field_count-requires c = is_object c.args.table.now c.in_ok-at.at _ _ _ c.tile.result c.tile.ensures
    (tile_some c.args.table.now c.in_ok-at.at c.args.word c.in_ok-at.ensures.holder) c.in-Object.is
