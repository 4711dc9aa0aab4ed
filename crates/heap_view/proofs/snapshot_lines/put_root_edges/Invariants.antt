use Rattle.script_text.specs.Texts.{Adds}
use Rattle.heap_dump.specs.Lists.{text_below}
use Rattle.heap_view.specs.SnapshotTexts.{root_edge}
use Rattle.heap_view.proofs.snapshot_lines.put_root_edges.Given as goal

abbrev pub invariant-loop-place : goal.invariant-loop-place
invariant-loop-place l = Adds l.initial.text (text_below (root_edge l.core) l.place) l.text
