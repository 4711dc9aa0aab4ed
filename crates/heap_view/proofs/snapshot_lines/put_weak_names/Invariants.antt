use Rattle.script_text.specs.Texts.{Adds}
use Rattle.heap_dump.specs.Lists.{text_below}
use Rattle.heap_view.specs.SnapshotTexts.{weak_name}
use Rattle.heap_view.proofs.snapshot_lines.put_weak_names.Given as goal

abbrev pub invariant-loop-index : goal.invariant-loop-index
invariant-loop-index l = Adds l.initial.text (text_below weak_name l.index) l.text
