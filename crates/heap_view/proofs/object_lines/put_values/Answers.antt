use Rattle.heap_dump.proofs.Putting.{adds_below}
use Rattle.heap_view.specs.Objects.{value_line}
use Rattle.heap_view.proofs.object_lines.put_values.Goals as goal

pub loop-field-preserved : goal.loop-field-preserved
loop-field-preserved c =
    adds_below (value_line c.args.core.now c.args.object) _ _ _ _ c.loop-field.invariant c.put_value.ensures
