use Rattle.region_tests.proofs.TableSamples.{stepped_is, stepped_rest}
use Rattle.region_tests.proofs.tables.steps_over_tiles.Goals as goal

pub field_count-requires : goal.field_count-requires
field_count-requires g c = (stepped_is _ _ _ c.in_ok-table.ensures c.new-object.ensures).object

pub get_field-requires : goal.get_field-requires
get_field-requires g c = (stepped_is _ _ _ c.in_ok-table.ensures c.new-object.ensures).fields

pub next_tile-requires : goal.next_tile-requires
next_tile-requires g c = (stepped_is _ _ _ c.in_ok-table.ensures c.new-object.ensures).tile

pub next_tile-requires-2 : goal.next_tile-requires-2
next_tile-requires-2 g c = stepped_rest _ _ _ c.in_ok-table.ensures c.new-rest.ensures
