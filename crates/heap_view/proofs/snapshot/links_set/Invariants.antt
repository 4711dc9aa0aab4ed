use Rattle.std.proofs.Common.{◌≡◌, take}
use Rattle.std.specs.Prelude.{is_some}
use Rattle.std.specs.List.{count_by}
use Rattle.heap_walk.specs.Holders.{links_at}
use Rattle.heap_view.proofs.snapshot.links_set.Given as goal

abbrev pub invariant-loop-index : goal.invariant-loop-index
invariant-loop-index l = l.count ≡ count_by is_some (take l.index (links_at l.weak l.core l.object))
