use Rattle.std.proofs.Common.{IsSome}
use Rattle.std.specs.Prelude.{IfSome}
use Rattle.regions.specs.Table.{tile_in}
use Rattle.heap_walk.specs.Starts.{place_of}
use Rattle.heap_walk.specs.Walks.{IsTelling, entries_at}
use Rattle.heap_walk.proofs.objects.tell_from.Given as goal

abbrev pub invariant-loop-count : goal.invariant-loop-count
invariant-loop-count l = record {
  telling : IsTelling (entries_at l.core) (place_of l.core.table l.fn.tile) (place_of l.core.table l.left) l.initial.out l.out l.count;
  tile : IfSome l.left (λ a. IsSome (tile_in l.core.table a));
}
