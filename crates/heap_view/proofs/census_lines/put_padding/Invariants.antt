use Rattle.std.proofs.Common.{◌-◌}
use Rattle.heap_dump.proofs.Putting.{Leads}
use Rattle.heap_view.specs.Census.{padding}
use Rattle.heap_view.proofs.census_lines.put_padding.Given as goal

abbrev pub invariant-loop-place : goal.invariant-loop-place
invariant-loop-place l = Leads l.initial.text l.text (padding (9 - l.place) l.left) (padding 9 l.number)
