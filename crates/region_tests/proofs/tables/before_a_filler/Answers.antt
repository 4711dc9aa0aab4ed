use Rattle.std.proofs.Common.{None}
use Rattle.region_tests.proofs.TableSamples.{step_field, stepped_is}
use Rattle.region_tests.proofs.tables.before_a_filler.Goals as goal

pub set_field-requires : goal.set_field-requires
set_field-requires c = (stepped_is None _ _ c.in_ok-table.ensures c.new.ensures).fields

pub returns : goal.returns
returns c = step_field _ _ _ _ c.in_ok-table.ensures c.set_field.ensures c.new.ensures c.new-2.ensures
