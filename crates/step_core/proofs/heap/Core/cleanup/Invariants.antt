use Rattle.std.proofs.Common.{◌-◌, length}
use Rattle.heap_model.specs.Graph.{Graph}
use Rattle.step_core.specs.Stands.{ShowsGraph, KeepsFrom}
use Rattle.step_core.proofs.Cycles.Cleaning.{Cleans}
use Rattle.step_core.proofs.heap.Core.cleanup.Given as goal

abbrev pub invariant-loop-number : goal.invariant-loop-number
invariant-loop-number l = record {
  shows : (g : Graph) → ShowsGraph g l.fn.self → ShowsGraph g l.self;
  keeps : (s : Graph) → KeepsFrom s l.fn.self → KeepsFrom s l.self;
  cleans : Cleans l.number l.count l.fn.self l.self;
}

abbrev pub decreases-loop-number : goal.decreases-loop-number
decreases-loop-number l = length l.self.table.regions - l.number
