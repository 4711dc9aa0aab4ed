use Rattle.regions.specs.Table.{values_at}
use Rattle.script_text.specs.Texts.{spaced_number}
use Rattle.heap_dump.proofs.Putting.{adds_more}
use Rattle.heap_dump.proofs.fields.put_values.Goals as goal

pub loop-field-preserved : goal.loop-field-preserved
loop-field-preserved c =
    adds_more spaced_number (values_at c.args.table.now c.args.object) _ _ _ _ _ c.get_value.ensures c.loop-field.invariant
    c.put_number.ensures
