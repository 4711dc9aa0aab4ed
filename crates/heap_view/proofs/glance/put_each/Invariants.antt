use Rattle.script_text.specs.Texts.{Adds}
use Rattle.heap_dump.specs.Lists.{text_below}
use Rattle.heap_view.specs.Glances.{listed_region}
use Rattle.heap_view.proofs.glance.put_each.Given as goal

abbrev pub invariant-loop-number : goal.invariant-loop-number
invariant-loop-number l = Adds l.initial.text (text_below (listed_region l.summary l.core) l.number) l.text
