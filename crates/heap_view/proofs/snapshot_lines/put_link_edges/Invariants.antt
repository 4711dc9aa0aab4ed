use Rattle.script_text.specs.Texts.{Adds}
use Rattle.heap_dump.specs.Lists.{text_below}
use Rattle.heap_view.specs.SnapshotTexts.{link_edge}
use Rattle.heap_view.proofs.snapshot_lines.put_link_edges.Given as goal

abbrev pub invariant-loop-index : goal.invariant-loop-index
invariant-loop-index l = Adds l.initial.text (text_below (link_edge l.weak l.core l.numbering.classes.items l.object) l.index) l.text
