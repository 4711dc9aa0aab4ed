use Rattle.script_text.specs.Texts.{Adds}
use Rattle.heap_dump.specs.Lists.{text_below}
use Rattle.heap_view.specs.Actors.{mutator_lines}
use Rattle.heap_view.proofs.root_lines.put_mutators.Given as goal

abbrev pub invariant-loop-mutator : goal.invariant-loop-mutator
invariant-loop-mutator l = Adds l.initial.text (text_below (mutator_lines l.core) l.mutator) l.text
