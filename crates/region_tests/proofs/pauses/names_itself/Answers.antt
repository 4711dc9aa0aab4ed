use Rattle.std.proofs.Common.{None, Some, arith}
use Rattle.region_tests.proofs.PauseTables as tables
use Rattle.region_tests.proofs.PauseTables.{has_field, names_itself_twice}
use Rattle.region_tests.proofs.pauses.names_itself.Goals as goal

pub set_field-requires : goal.set_field-requires
set_field-requires c = has_field None None _ _ 0 c.in_ok-table.ensures c.new-object.ensures (omega arith)

pub set_field-requires-2 : goal.set_field-requires-2
set_field-requires-2 c =
    let t = tables.names_itself _ _ _ c.in_ok-table.ensures c.set_field.ensures c.new-object.ensures in
    has_field (Some 0) None _ _ 1 t c.new-object.ensures (omega arith)

pub returns : goal.returns
returns c =
    let t = tables.names_itself _ _ _ c.in_ok-table.ensures c.set_field.ensures c.new-object.ensures in
    names_itself_twice _ _ _ t c.set_field-2.ensures c.new-object.ensures
