use Rattle.std.proofs.Common.{take}
use Rattle.std.specs.List.{flat_map}
use Rattle.script_text.specs.Texts.{Adds}
use Rattle.heap_view.specs.Census.{row_line}
use Rattle.heap_view.proofs.census_lines.put_rows.Given as goal

abbrev pub invariant-loop-row : goal.invariant-loop-row
invariant-loop-row l = Adds l.initial.text (flat_map (row_line l.types) (take l.row-index l.rows)) l.text
