use Rattle.std.proofs.Common.{take}
use Rattle.std.specs.List.{flat_map}
use Rattle.script_text.specs.Texts.{Adds, spaced_number}
use Rattle.heap_dump.proofs.lists.put_queued.Given as goal

abbrev pub invariant-loop-place : goal.invariant-loop-place
invariant-loop-place l = Adds l.initial.text (flat_map spaced_number (take l.place l.cards.queue)) l.text
