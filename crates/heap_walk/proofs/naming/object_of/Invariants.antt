use Rattle.std.proofs.Common.{IsSome}
use Rattle.std.specs.Prelude.{IfSome}
use Rattle.regions.specs.Table.{tile_in}
use Rattle.heap_walk.specs.Starts.{place_of}
use Rattle.heap_walk.proofs.Keeping.{left_over}
use Rattle.heap_walk.proofs.ObjectNames.{NoneNamed}
use Rattle.heap_walk.proofs.naming.object_of.Given as goal

abbrev pub invariant-loop-object : goal.invariant-loop-object
invariant-loop-object l = record {
  none : NoneNamed l.core l.name (place_of l.core.table l.left);
  tile : IfSome l.left (λ a. IsSome (tile_in l.core.table a));
}

abbrev pub decreases-loop-object : goal.decreases-loop-object
decreases-loop-object l = left_over l.core.table l.left
