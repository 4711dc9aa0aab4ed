use Rattle.region_tests.proofs.TableSamples.{usable_filled, rest_is_tile}
use Rattle.region_tests.proofs.tables.walks_over_a_region.Goals as goal

pub walk-at-items-requires : goal.walk-at-items-requires
walk-at-items-requires g c = (usable_filled _ _ _ c.in_ok-table.ensures c.new.ensures).0

pub walk_from-requires : goal.walk_from-requires
walk_from-requires g c = rest_is_tile _ _ _ _ c.in_ok-table.ensures c.new-rest.ensures
