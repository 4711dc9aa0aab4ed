use Rattle.std.proofs.Common.{arith, refl}
use Rattle.region_tests.proofs.TableSamples.{usable_filled, sample_is, word_inside}
use Rattle.region_tests.proofs.tables.fills_a_region.Goals as goal

pub about-requires : goal.about-requires
about-requires g c = (sample_is _ _ _ _ c.in_ok-table.ensures c.new-object.ensures).object

pub fields-requires-clause-pointers : goal.fields-requires-clause-pointers
fields-requires-clause-pointers g c = (sample_is _ _ _ _ c.in_ok-table.ensures c.new-object.ensures).pointers

pub fields-requires-clause-values : goal.fields-requires-clause-values
fields-requires-clause-values g c = (sample_is _ _ _ _ c.in_ok-table.ensures c.new-object.ensures).values

pub has_room-requires-clause-known : goal.has_room-requires-clause-known
has_room-requires-clause-known g c = (usable_filled _ _ _ c.in_ok-table.ensures c.new-region.ensures).0

pub has_room-requires-clause-ordinary : goal.has_room-requires-clause-ordinary
has_room-requires-clause-ordinary g c = (usable_filled _ _ _ c.in_ok-table.ensures c.new-region.ensures).1

pub has_room-requires-2-clause-known : goal.has_room-requires-2-clause-known
has_room-requires-2-clause-known g c = (usable_filled _ _ _ c.in_ok-table.ensures c.new-region.ensures).0

pub has_room-requires-2-clause-ordinary : goal.has_room-requires-2-clause-ordinary
has_room-requires-2-clause-ordinary g c = (usable_filled _ _ _ c.in_ok-table.ensures c.new-region.ensures).1

pub check_first_tile-requires : goal.check_first_tile-requires
check_first_tile-requires g c = word_inside _ _ _ _ c.in_ok-table.ensures refl c.new.ensures (omega arith)

pub check_first_tile-requires-2 : goal.check_first_tile-requires-2
check_first_tile-requires-2 g c = word_inside _ _ _ _ c.in_ok-table.ensures refl c.new-3.ensures (omega arith)

pub check_first_tile-requires-3 : goal.check_first_tile-requires-3
check_first_tile-requires-3 g c = word_inside _ _ _ _ c.in_ok-table.ensures refl c.new-4.ensures (omega arith)
