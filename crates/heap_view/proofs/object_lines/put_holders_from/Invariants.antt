use Rattle.std.proofs.Common.{◌-◌}
use Rattle.std.specs.List.{flat_map}
use Rattle.heap_dump.proofs.Putting.{Leads}
use Rattle.heap_walk.specs.Holders.{place_count}
use Rattle.heap_view.specs.Objects.{holder_line, holders_from}
use Rattle.heap_view.proofs.object_lines.put_holders_from.Given as goal

abbrev pub invariant-loop-holder : goal.invariant-loop-holder
invariant-loop-holder l = Leads l.initial.text l.text (flat_map holder_line (holders_from l.core l.name l.place))
    (flat_map holder_line (holders_from l.core l.name l.fn.from))

abbrev pub decreases-loop-holder : goal.decreases-loop-holder
decreases-loop-holder l = place_count l.core - l.place
