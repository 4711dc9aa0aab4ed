use Rattle.std.proofs.Common.{take}
use Rattle.std.specs.List.{flat_map}
use Rattle.script_text.specs.Texts.{Adds}
use Rattle.heap_walk.specs.Holders.{links_at}
use Rattle.heap_dump.specs.Fields.{spaced_pointer}
use Rattle.heap_dump.proofs.fields.put_links.Given as goal

abbrev pub invariant-loop-index : goal.invariant-loop-index
invariant-loop-index l =
    Adds l.initial.text (flat_map (spaced_pointer l.spelling l.core.table) (take l.index (links_at l.weak l.core l.object))) l.text
