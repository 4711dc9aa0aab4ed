use Rattle.std.proofs.Common.{◌-◌, ◌≤◌}
use Rattle.marker.proofs.Looked.{LooksOn}
use Rattle.marker.proofs.marker.Marker.scan_words.Given as goal

abbrev pub invariant-objects : goal.invariant-objects
invariant-objects l = record { looks : LooksOn l.table l.done l.fn.self l.self; few : l.done ≤ l.most }

abbrev pub decreases-objects : goal.decreases-objects
decreases-objects l = l.most - l.done
