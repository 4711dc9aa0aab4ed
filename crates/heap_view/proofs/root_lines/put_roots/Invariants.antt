use Rattle.std.proofs.Common.{◌-◌, drop, take}
use Rattle.heap_dump.specs.Lists.{named}
use Rattle.heap_dump.proofs.Putting.{Leads}
use Rattle.heap_view.specs.Actors.{roots_text}
use Rattle.heap_view.proofs.Rows.{rest_text}
use Rattle.heap_view.proofs.root_lines.put_roots.Given as goal

abbrev pub invariant-loop-place : goal.invariant-loop-place
invariant-loop-place l = Leads l.initial.text l.text
    (rest_text l.table l.letter l.some (named (l.place - l.first) (drop l.place (take l.end l.roots.words))))
    (roots_text l.table l.roots.words l.letter l.first l.end)
