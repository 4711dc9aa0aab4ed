use Rattle.std.proofs.Common.{take}
use Rattle.std.specs.List.{flat_map}
use Rattle.script_text.specs.Texts.{Adds, spaced_number}
use Rattle.regions.specs.Table.{values_at}
use Rattle.heap_dump.proofs.fields.put_values.Given as goal

abbrev pub invariant-loop-field : goal.invariant-loop-field
invariant-loop-field l = Adds l.initial.text (flat_map spaced_number (take l.field (values_at l.table l.object))) l.text
