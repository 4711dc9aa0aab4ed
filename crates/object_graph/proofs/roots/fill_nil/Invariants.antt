use Rattle.std.proofs.Common.{◌≡◌}
use Rattle.heap_model.specs.Graph.{with_nils}
use Rattle.object_graph.proofs.roots.fill_nil.Given as goal

abbrev pub invariant-loop-index : goal.invariant-loop-index
invariant-loop-index l = l.roots ≡ with_nils l.fn.roots l.first l.index
