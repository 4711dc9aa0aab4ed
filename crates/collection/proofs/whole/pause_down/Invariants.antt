use Rattle.std.proofs.Common.{◌≤◌, ◌-◌}
use Rattle.regions.specs.Table.{free_count}
use Rattle.graph_runs.specs.State.{State}
use Rattle.collection.specs.Space.{IsQuiet}
use Rattle.collection.specs.Steps.{CollectsWithin}
use Rattle.collection.proofs.whole.pause_down.Given as goal

abbrev pub invariant-pauses : goal.invariant-pauses
invariant-pauses g l = record {
  collects : CollectsWithin g.W.Watch.sees (free_count l.core.table - free_count l.initial.core.table) l.initial.core l.initial.watch l.core
      l.watch;
  grows : free_count l.initial.core.table ≤ free_count l.core.table;
  quiet : (s : State) → IsQuiet s l.initial.core → IsQuiet s l.core;
}

abbrev pub decreases-pauses : goal.decreases-pauses
decreases-pauses g l = l.core.config.regions - free_count l.core.table
