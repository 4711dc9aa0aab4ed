use Rattle.script_text.specs.Texts.{Adds}
use Rattle.heap_dump.specs.Lists.{text_below}
use Rattle.heap_life.specs.Telling.{buffer_of}
use Rattle.heap_life.proofs.moment_text.put_buffers.Given as goal

abbrev pub invariant-loop-mutator : goal.invariant-loop-mutator
invariant-loop-mutator l = Adds l.initial.text (text_below (buffer_of l.core) l.mutator) l.text
