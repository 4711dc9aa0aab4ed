use Rattle.std.proofs.Common.{◌≡◌}
use Rattle.object_graph.specs.Reached.{searched}
use Rattle.object_graph.proofs.search.Search.look_at_all.Given as goal

abbrev pub invariant-loop-next : goal.invariant-loop-next
invariant-loop-next l = l.self ≡ searched l.initial.self l.objects l.next
