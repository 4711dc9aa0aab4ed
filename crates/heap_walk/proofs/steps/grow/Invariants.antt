use Rattle.std.proofs.Common.{◌<◌, ◌≡◌, ℕ, length, IsSome}
use Rattle.std.specs.Prelude.{IfSome}
use Rattle.regions.specs.Table.{tile_in}
use Rattle.heap_walk.specs.Starts.{place_of}
use Rattle.heap_walk.specs.Searching.{HasGrown, IsCovered}
use Rattle.heap_walk.proofs.Keeping.{left_over}
use Rattle.heap_walk.proofs.steps.grow.Given as goal

abbrev pub invariant-loop-object : goal.invariant-loop-object
invariant-loop-object l = record {
  positive : 0 < l.next;
  grown : HasGrown l.core l.initial.steps l.steps l.low l.last l.next l.room;
  covered : (a : ℕ) → a < place_of l.core.table l.left → IsCovered l.core l.steps l.low l.last l.next l.room a;
  tile : IfSome l.left (λ a. IsSome (tile_in l.core.table a));
  long : length l.steps ≡ length l.initial.steps;
}

abbrev pub decreases-loop-object : goal.decreases-loop-object
decreases-loop-object l = left_over l.core.table l.left
