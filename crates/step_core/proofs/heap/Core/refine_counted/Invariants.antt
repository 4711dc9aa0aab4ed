use Rattle.std.proofs.Common.{◌+◌, ◌*◌, ◌≤◌}
use Rattle.heap_model.specs.Graph.{Graph}
use Rattle.heap_words.specs.Configs.{card_words}
use Rattle.remembered_sets.specs.Owed.{owed}
use Rattle.refinement.specs.Turns.{card_turns}
use Rattle.step_core.specs.Stands.{ShowsGraph, KeepsFrom}
use Rattle.step_core.proofs.Pauses.Refined.{RefinesSome}
use Rattle.step_core.proofs.heap.Core.refine_counted.Given as goal

abbrev pub invariant-loop-done : goal.invariant-loop-done
invariant-loop-done l = record {
  shows : (g : Graph) → ShowsGraph g l.fn.self → ShowsGraph g l.self;
  keeps : (s : Graph) → KeepsFrom s l.fn.self → KeepsFrom s l.self;
  refines : RefinesSome l.done l.fn.self l.self;
  spent : l.work + owed l.self.sets ≤ l.fn.work + owed l.fn.self.sets
      + l.done * (card_turns l.fn.self.table.words_per_region (card_words l.fn.self.config) + 1);
}
