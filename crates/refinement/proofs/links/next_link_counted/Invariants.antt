use Rattle.std.proofs.Common.{◌≡◌, ◌+◌, ◌<◌, ◌≤◌, ◌-◌, ℕ, Some, None}
use Rattle.std.specs.Prelude.{slice_get}
use Rattle.regions.specs.Table.{fields_at}
use Rattle.refinement.proofs.links.next_link_counted.Given as goal

abbrev pub invariant-fields : goal.invariant-fields
invariant-fields l = record {
  low : l.start ≤ l.field;
  high : l.field < l.end;
  spent : l.work + l.start ≤ l.initial.work + l.field;
  nil : (i : ℕ) → l.start ≤ i → i < l.field → slice_get (fields_at l.table l.object) i ≡ Some None;
}

abbrev pub decreases-fields : goal.decreases-fields
decreases-fields l = l.end - l.field
