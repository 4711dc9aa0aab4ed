use Rattle.std.proofs.Common.{◌+◌, ◌<◌, ◌≤◌, ◌-◌}
use Rattle.refinement.specs.Refining.{LeadInto}
use Rattle.refinement.proofs.links.leads_elsewhere.Given as goal

abbrev pub invariant-fields : goal.invariant-fields
invariant-fields l = record {
  low : l.start ≤ l.field;
  high : l.field < l.end;
  spent : l.work + l.start ≤ l.initial.work + l.field;
  near : LeadInto l.table l.object l.start l.field l.home l.last;
}

abbrev pub decreases-fields : goal.decreases-fields
decreases-fields l = l.end - l.field
