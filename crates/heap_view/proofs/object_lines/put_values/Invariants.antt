use Rattle.script_text.specs.Texts.{Adds}
use Rattle.heap_dump.specs.Lists.{text_below}
use Rattle.heap_view.specs.Objects.{value_line}
use Rattle.heap_view.proofs.object_lines.put_values.Given as goal

abbrev pub invariant-loop-field : goal.invariant-loop-field
invariant-loop-field l = Adds l.initial.text (text_below (value_line l.core l.object) l.field) l.text
