use Rattle.std.proofs.Common.{◌≤◌, ◌-◌}
use Rattle.heap_model.specs.Graph.{Graph}
use Rattle.graph_runs.specs.State.{State}
use Rattle.collection.specs.Space.{IsPacked, IsQuiet, ordinary_end}
use Rattle.collection.specs.Steps.{CollectsWithin}
use Rattle.collection.proofs.compaction.compact_down.Given as goal

abbrev pub invariant-compactions : goal.invariant-compactions
invariant-compactions g l = record {
  collects : CollectsWithin g.W.Watch.sees (ordinary_end l.initial.core.table - ordinary_end l.core.table) l.initial.core l.initial.watch
      l.core
      l.watch;
  falls : ordinary_end l.core.table ≤ ordinary_end l.initial.core.table;
  quiet : (s : State) → IsQuiet s l.initial.core → IsQuiet s l.core;
  packed : (graph : Graph) → IsPacked graph l.initial.core → IsPacked graph l.core;
}

abbrev pub decreases-compactions : goal.decreases-compactions
decreases-compactions g l = ordinary_end l.core.table
