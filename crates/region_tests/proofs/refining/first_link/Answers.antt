use Rattle.region_tests.proofs.Samples.{is_object}
use Rattle.region_tests.proofs.refining.first_link.Goals as goal
use Rattle.regions.proofs.Tiles.Made.{tile_some}

pub field_count-requires : goal.field_count-requires
field_count-requires c = is_object c.args.table.now c.in-Some.at _ _ _ c.tile.result c.tile.ensures
    (tile_some c.args.table.now c.in-Some.at c.new.result c.in-Some.ensures.holder) c.in-Object.is
