use Rattle.std.proofs.Common.{take}
use Rattle.std.specs.List.{flat_map}
use Rattle.script_text.specs.Texts.{Adds}
use Rattle.heap_view.specs.SnapshotTexts.{object_node}
use Rattle.heap_view.proofs.snapshot_lines.put_object_nodes.Given as goal

abbrev pub invariant-loop-start : goal.invariant-loop-start
invariant-loop-start l =
    Adds l.initial.text (flat_map (object_node l.types l.core l.numbering.classes.items) (take l.start-index l.items)) l.text
