use Rattle.std.proofs.Common.{◌≡◌, take}
use Rattle.object_graph.specs.Fields.{object_in}
use Rattle.object_graph.specs.Reached.{all_found}
use Rattle.object_graph.proofs.search.Search.look_in.Given as goal

abbrev pub invariant-loop-field : goal.invariant-loop-field
invariant-loop-field l = l.self ≡ all_found l.initial.self (take l.field (object_in l.objects l.place).pointers)
