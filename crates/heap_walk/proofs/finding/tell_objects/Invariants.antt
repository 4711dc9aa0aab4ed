use Rattle.std.proofs.Common.{◌≡◌, ◌+◌, ◌≤◌, ℕ, List, length, IsSome}
use Rattle.std.specs.Prelude.{IfSome}
use Rattle.regions.specs.Table.{tile_in}
use Rattle.heap_walk.specs.Starts.{place_of}
use Rattle.heap_walk.specs.Walks.{IsTelling}
use Rattle.heap_walk.specs.Holders.{holders_at}
use Rattle.heap_walk.specs.declared.holders.Holder.{Holder}
use Rattle.heap_walk.proofs.Keeping.{left_over}
use Rattle.heap_walk.proofs.finding.tell_objects.Given as goal

abbrev pub invariant-loop-object : goal.invariant-loop-object
invariant-loop-object l = record {
  telling : (from : ℕ) (before : List Holder) → length before ≡ length l.initial.out
      → IsTelling (holders_at l.core l.name) from (length l.core.roots + place_of l.core.table l.fn.tile) before l.initial.out l.fn.told
      → IsTelling (holders_at l.core l.name) from (length l.core.roots + place_of l.core.table l.left) before l.out l.count;
  tile : IfSome l.left (λ a. IsSome (tile_in l.core.table a));
  room : l.count ≤ length l.out;
}

abbrev pub decreases-loop-object : goal.decreases-loop-object
decreases-loop-object l = left_over l.core.table l.left
