use Rattle.heap_life.specs.RegionTexts.{region_text}
use Rattle.heap_life.proofs.Tellings.{IsTold}
use Rattle.heap_life.proofs.moment_text.tell_regions.Given as goal

abbrev pub invariant-loop-number : goal.invariant-loop-number
invariant-loop-number l = IsTold (region_text l.tiles l.core) l.number l.initial.last.items l.last.items l.initial.text l.text
