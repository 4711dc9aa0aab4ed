use Rattle.std.proofs.Common.{◌≤◌}
use Rattle.regions.specs.Table.{pointers_at}
use Rattle.marker.specs.Roots.{IsInSpan}
use Rattle.marker.proofs.Reached.{Reached}
use Rattle.marker.proofs.marker.Marker.reach_pointers.Given as goal

abbrev pub invariant-loop-field : goal.invariant-loop-field
invariant-loop-field l = record {
  reached : Reached l.table (IsInSpan (pointers_at l.table l.object) l.from l.field) l.initial.self l.self;
  low : l.from ≤ l.field;
}
