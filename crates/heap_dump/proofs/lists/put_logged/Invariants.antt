use Rattle.std.proofs.Common.{take, []}
use Rattle.std.specs.Prelude.{slice_index_or}
use Rattle.std.specs.List.{flat_map}
use Rattle.script_text.specs.Texts.{Adds, spaced_number}
use Rattle.heap_dump.proofs.lists.put_logged.Given as goal

abbrev pub invariant-loop-place : goal.invariant-loop-place
invariant-loop-place l = Adds l.initial.text (flat_map spaced_number (take l.place (slice_index_or l.cards.logs l.mutator []))) l.text
