use Rattle.remembered_sets.specs.Sets.{set_of}
use Rattle.script_text.specs.Texts.{Adds}
use Rattle.heap_dump.specs.Lists.{source_text, text_below}
use Rattle.heap_dump.proofs.lists.put_sources.Given as goal

abbrev pub invariant-loop-source : goal.invariant-loop-source
invariant-loop-source l = Adds l.initial.text (text_below (source_text (set_of l.core.sets l.region) l.before) l.source) l.text
