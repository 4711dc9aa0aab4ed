use Rattle.std.proofs.Common.{take}
use Rattle.remembered_sets.specs.Sets.{set_of}
use Rattle.std.specs.List.{flat_map}
use Rattle.script_text.specs.Texts.{Adds, spaced_number}
use Rattle.heap_dump.proofs.lists.put_cards.Given as goal

abbrev pub invariant-loop-place : goal.invariant-loop-place
invariant-loop-place l = Adds l.initial.text (flat_map spaced_number (take l.place (set_of l.sets l.region).inline)) l.text
