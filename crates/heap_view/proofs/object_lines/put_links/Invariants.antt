use Rattle.script_text.specs.Texts.{Adds}
use Rattle.heap_dump.specs.Lists.{text_below}
use Rattle.heap_view.specs.Objects.{link_line}
use Rattle.heap_view.proofs.object_lines.put_links.Given as goal

abbrev pub invariant-loop-index : goal.invariant-loop-index
invariant-loop-index l = Adds l.initial.text (text_below (link_line l.weak l.core l.object) l.index) l.text
