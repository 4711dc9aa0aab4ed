-- Room for an object that is asked for.
use Rattle.std.specs.Prelude.{◌≡◌, ◌≢◌, ◌⊎◌, ◌+◌, ◌-◌, ◌*◌, ◌^◌, ◌<◌, ◌≤◌, ℕ, Bool, false, Option, None, Some, nat_le}
use Rattle.heap_words.specs.Configs.{object_limit}
use Rattle.heap_model.specs.Graph.{Graph}
use Rattle.heap_model.specs.Heap.{Stored}
use Rattle.regions.specs.Table.{Table, first_run, free_count, is_free, used_of}
use Rattle.alloc_buffers.specs.Placement.{Placement, made_at, allocation_of, run_count}
use Rattle.heap_steps.specs.Actors.{IsThird}
use Rattle.step_core.specs.Steps.{Action, Op}
use Rattle.graph_runs.specs.State.{State}
use Rattle.step_core.specs.Stands.{CoreState, Stands}
use Rattle.step_core.specs.Mutators.{core_after}
use Rattle.collection.specs.Space.{IsCollected, IsCompact, IsPacked, IsPackedBut}
use Rattle.collection.specs.Steps.{LeavesTwo, asked_words, regions_for}

-- the graph would create the object: it isn't larger than an object may be, and a name is left
pub record IsCreatable (c : CoreState) (a : Action) : Type 0 where
  pub fits : asked_words a ≤ object_limit c.config
  pub named : c.next ≢ 2 ^ 64 - 1

-- whether the region that buffers are cut from has so many words left
abbrev pub has_rest : Table → Option ℕ → ℕ → Bool
has_rest t None words = false
has_rest t (Some k) words = nat_le (used_of t k + words) t.words_per_region

-- the object has a place, and as many regions are free once it is made there as before
pub record FitsOpen (c : CoreState) (m size : ℕ) : Type 0 where
  pub place : Placement
  pub is : allocation_of c.table c.buffers m size ≡ Some place
  pub free : (object : Stored) → free_count (made_at place.table place.place object) ≡ free_count c.table

-- wherever the object has a place, a region less is free once it is made there
pub record TakesRegion (c : CoreState) (m size : ℕ) : Type 0 where
  pub less : (p : Placement) (object : Stored) → allocation_of c.table c.buffers m size ≡ Some p
      → free_count (made_at p.table p.place object) + 1 ≡ free_count c.table

-- there is a run of free regions for the object, and two are free beside it
pub record HasRun (c : CoreState) (size : ℕ) : Type 0 where
  pub two : run_count c.table.words_per_region size + 2 ≤ free_count c.table
  pub run : first_run is_free (run_count c.table.words_per_region size) c.table.regions ≢ None

-- the object has a place, and two free regions stay two where it is made
pub record IsSpared (c : CoreState) (op : Op) : Type 0 where
  pub place : allocation_of c.table c.buffers op.mutator (asked_words op.action) ≢ None
  pub two : 2 ≤ free_count c.table → 2 ≤ free_count (core_after c op.mutator op.action).table

-- the heap has too few regions to leave two beside the object, and a whole collection was just done
pub record IsLastResort (c : CoreState) (op : Op) (c' : CoreState) : Type 0 where
  pub few : LeavesTwo c.config op.action → ⊥
  pub collected : (s : State) → Stands s c → IsCollected s.graph c'

-- Why an object is refused as Full, of the graph as it was when it was asked for. A whole collection was just done. And if the heap has
-- regions enough to leave two beside those that the object takes, and two were free: fewer are free than these and two, and what roots
-- reach has more than half of the words of all regions but two and those that the object takes. In the first two formats, which have no
-- compactions, this is so of an object of at most half a region; for a larger one there is no run of free regions, or fewer than two are
-- free beside it, and what roots reach has more than half of the words of the regions in use. In the third format no region in use is above
-- a free one then
pub record IsFilled (g : Graph) (c : CoreState) (a : Action) (c' : CoreState) : Type 0 where
  pub collected : IsCollected g c'
  pub full : LeavesTwo c.config a → 2 ≤ free_count c.table → (2 * asked_words a ≤ c.config.words) ⊎ IsThird c.config.format
      → IsPackedBut g c' (regions_for c.config.words (asked_words a))
  pub large : LeavesTwo c.config a → c.config.words < 2 * asked_words a → HasRun c' (asked_words a) → ⊥
  pub dense : LeavesTwo c.config a → c.config.words < 2 * asked_words a → 2 ≤ free_count c.table → IsPacked g c'
  pub compact : IsThird c.config.format → LeavesTwo c.config a → c.config.words < 2 * asked_words a → 2 ≤ free_count c.table
      → IsCompact c'.table
