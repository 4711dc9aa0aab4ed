use Rattle.std.proofs.Common.{take}
use Rattle.std.specs.List.{flat_map}
use Rattle.script_text.specs.Texts.{Adds}
use Rattle.heap_view.specs.SnapshotTexts.{class_name}
use Rattle.heap_view.proofs.snapshot_lines.put_class_names.Given as goal

abbrev pub invariant-loop-class : goal.invariant-loop-class
invariant-loop-class l = Adds l.initial.text (flat_map (class_name l.types) (take l.class-index l.classes)) l.text
