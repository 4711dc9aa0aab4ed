use Rattle.script_text.specs.Texts.{Adds}
use Rattle.heap_dump.specs.Lists.{text_below}
use Rattle.heap_life.specs.Telling.{deletions_of}
use Rattle.heap_life.proofs.moment_text.put_deletion_logs.Given as goal

abbrev pub invariant-loop-mutator : goal.invariant-loop-mutator
invariant-loop-mutator l = Adds l.initial.text (text_below (deletions_of l.core) l.mutator) l.text
