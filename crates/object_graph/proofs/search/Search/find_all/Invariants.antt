use Rattle.std.proofs.Common.{◌≡◌, take}
use Rattle.object_graph.specs.Reached.{all_found}
use Rattle.object_graph.proofs.search.Search.find_all.Given as goal

abbrev pub invariant-loop-name : goal.invariant-loop-name
invariant-loop-name l = l.self ≡ all_found l.initial.self (take l.name-index l.names)
