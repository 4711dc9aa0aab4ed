use Rattle.std.proofs.Common.{◌≡◌}
use Rattle.heap_model.specs.Graph.{with_nils}
use Rattle.root_table.proofs.table.fill_nil.Given as goal

abbrev pub invariant-loop-index : goal.invariant-loop-index
invariant-loop-index l = l.words ≡ with_nils l.fn.words l.first l.index
