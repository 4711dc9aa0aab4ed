use Rattle.region_tests.proofs.CopySamples.{field_there, one_named}
use Rattle.region_tests.proofs.copies.own_object.Goals as goal

pub set_field-requires : goal.set_field-requires
set_field-requires c = field_there _ _ c.in_ok-table.ensures c.new-object.ensures

pub returns : goal.returns
returns c = one_named _ _ _ c.in_ok-table.ensures c.set_field.ensures c.new-object.ensures
