-- What is left where a pause frees no region.
use Rattle.std.specs.Prelude.{◌≡◌, ◌≢◌, ℕ, zero, suc, ◌+◌, ◌-◌, ◌*◌, ◌/◌, ◌<◌, ◌≤◌, Bool, true, false, if◌then◌else◌, All, List, Some, None}
use Rattle.std.specs.Prelude.{length, slice_get}
use Rattle.heap_model.specs.Graph.{Graph, IsReachable, object_named}
use Rattle.regions.specs.Table.{Table, free_count, kind_of}
use Rattle.regions.specs.declared.row.Kind.{Kind}
use Rattle.regions.specs.declared.row.Kind.TheVariants as kinds
use Rattle.mark_bitmap.specs.Live.{live_bound_of, kept_words}
use Rattle.step_core.specs.Stands.{CoreState, Stands, kept_of}
use Rattle.graph_runs.specs.State.{State}
use Rattle.heap_model.specs.Heap.{Stored}
use Rattle.step_core.specs.Measures.{sum_below}
use Rattle.step_core.specs.Pause.{words_of, named_words}
use Rattle.region_choice.specs.Choice.{live_sum, ComeFirst}
use Rattle.region_choice.specs.declared.LiveRow.{LiveRow}

-- A pause over so many free regions chose these rows, which come first, and left the others, of which none fits; it took destinations for
-- what it copied, two or more only where these are more than half full; and no more regions are free than before
pub record FreesNone (words frees : ℕ) (chosen rest : List LiveRow) (taken copied : ℕ) : Type 0 where
  pub positive : 0 < words
  pub some : 2 ≤ frees
  pub below : All (λ row. row.live_bound < words) rest
  pub first : ComeFirst chosen rest
  pub next : All (λ row. frees * words / 2 < live_sum chosen + row.live_bound) rest
  pub within : copied ≤ live_sum chosen
  pub none : copied ≡ 0 → taken ≡ 0
  pub full : 2 ≤ taken → taken * words < 2 * copied
  pub gain : length chosen ≤ taken

-- ---- regions
abbrev pub ordinary_one : Kind → ℕ
ordinary_one kinds.Free = 0
ordinary_one kinds.Ordinary = 1
ordinary_one kinds.First = 0
ordinary_one kinds.Rest = 0

abbrev pub run_one : Kind → ℕ
run_one kinds.Free = 0
run_one kinds.Ordinary = 0
run_one kinds.First = 1
run_one kinds.Rest = 1

-- whether a region is ordinary
abbrev pub is_ordinary : Kind → Bool
is_ordinary kinds.Free = false
is_ordinary kinds.Ordinary = true
is_ordinary kinds.First = false
is_ordinary kinds.Rest = false

-- the number above the highest of the first n regions that is ordinary, 0 where none is
abbrev pub ordinary_end_of : Table → ℕ → ℕ
ordinary_end_of t zero = 0
ordinary_end_of t (suc n) = if is_ordinary (kind_of t n) then suc n else ordinary_end_of t n

abbrev pub ordinary_end : Table → ℕ
ordinary_end t = ordinary_end_of t (length t.regions)

-- each ordinary region is below each free one: so from the lowest free region on all others belong to humongous objects
abbrev pub LieBelowFree : Table → Type 0
LieBelowFree t = (j k : ℕ) → j < k → kind_of t j ≡ kinds.Free → kind_of t k ≢ kinds.Ordinary

-- each run that has a free region directly below begins at region n or above
abbrev pub RunsRestBelow : ℕ → Table → Type 0
RunsRestBelow n t = (j : ℕ) → kind_of t j ≡ kinds.Free → kind_of t (suc j) ≡ kinds.First → n ≤ suc j

-- no region in use is above a free one: from the lowest free region on all are free
abbrev pub IsCompact : Table → Type 0
IsCompact t = (j k : ℕ) → j < k → kind_of t j ≡ kinds.Free → kind_of t k ≡ kinds.Free

-- how many regions are ordinary, and how many belong to humongous objects
abbrev pub ordinary_count : Table → ℕ
ordinary_count t = sum_below (λ k. ordinary_one (kind_of t k)) (length t.regions)

abbrev pub run_count : Table → ℕ
run_count t = sum_below (λ k. run_one (kind_of t k)) (length t.regions)

-- the words of the kept objects of a region, if it is ordinary
abbrev pub kept_by_kind : Kind → CoreState → ℕ → ℕ
kept_by_kind kinds.Free c k = 0
kept_by_kind kinds.Ordinary c k =
    kept_words c.table c.marker.tams c.marker.bitmaps.previous (k * c.table.words_per_region) c.table.words_per_region
kept_by_kind kinds.First c k = 0
kept_by_kind kinds.Rest c k = 0

-- the words of the kept objects of ordinary regions
abbrev pub kept_sum : CoreState → ℕ
kept_sum c = sum_below (λ k. kept_by_kind (kind_of c.table k) c k) (length c.table.regions)

-- the live bound of a region, if it is ordinary
abbrev pub bound_by_kind : Kind → CoreState → ℕ → ℕ
bound_by_kind kinds.Free c k = 0
bound_by_kind kinds.Ordinary c k = live_bound_of c.table c.marker.tams.previous c.marker.bitmaps.previous k
bound_by_kind kinds.First c k = 0
bound_by_kind kinds.Rest c k = 0

-- the live bounds of all ordinary regions together
abbrev pub bound_sum : CoreState → ℕ
bound_sum c = sum_below (λ k. bound_by_kind (kind_of c.table k) c k) (length c.table.regions)

-- ordinary regions are more than half live by their bounds, if they are two or more
abbrev pub IsDense : CoreState → Type 0
IsDense c = 2 ≤ ordinary_count c.table → ordinary_count c.table * c.table.words_per_region < 2 * bound_sum c

-- no marking runs, and what counts as live in an ordinary region is kept
pub record IsExact (c : CoreState) : Type 0 where
  pub idle : c.marker.running ≡ false
  pub exact : (k : ℕ) → k < length c.table.regions → kind_of c.table k ≡ kinds.Ordinary
      → live_bound_of c.table c.marker.tams.previous c.marker.bitmaps.previous k ≤ kept_by_kind kinds.Ordinary c k

-- ---- what roots reach
-- distinct objects that roots reach, of so many words in all
pub record AreReachable (g : Graph) (words : ℕ) : Type 0 where
  pub names : List ℕ
  pub distinct : (i j n : ℕ) → slice_get names i ≡ Some n → slice_get names j ≡ Some n → i ≡ j
  pub each : (i n : ℕ) → slice_get names i ≡ Some n → IsReachable g n
  pub total : words_of g names ≡ words

-- No marking runs, what roots reach is all that is kept, no more counts as live in ordinary regions, and each humongous object is kept
pub record IsQuiet (s : State) (c : CoreState) : Type 0 where
  pub stands : Stands s c
  pub exact : IsExact c
  pub reached : (a : ℕ) (x : Stored) → kept_of c a ≡ Some x → IsReachable s.graph x.name
  pub runs : (k : ℕ) → kind_of c.table k ≡ kinds.First → kept_of c (k * c.table.words_per_region) ≢ None

-- distinct objects that roots reach have more than half of the words of so many regions
pub record FillHalf (g : Graph) (c : CoreState) (regions : ℕ) : Type 0 where
  pub words : ℕ
  pub reachable : AreReachable g words
  pub half : regions * c.table.words_per_region < 2 * words

-- Distinct objects that roots reach, none larger than half a region, have more than half of the words of all ordinary regions, if these are
-- two or more; and with humongous ones among them of all regions in use. If just one region is ordinary, they do of all others in use
pub record IsPacked (g : Graph) (c : CoreState) : Type 0 where
  pub words : ℕ
  pub reachable : AreReachable g words
  pub small : (i n : ℕ) → slice_get reachable.names i ≡ Some n → 2 * named_words (object_named g n) ≤ c.table.words_per_region
  pub half : 2 ≤ ordinary_count c.table → ordinary_count c.table * c.table.words_per_region < 2 * words
  pub in_use : ordinary_count c.table ≢ 1 → 0 < ordinary_count c.table + run_count c.table
      → FillHalf g c (ordinary_count c.table + run_count c.table)
  pub in_runs : ordinary_count c.table ≡ 1 → 0 < run_count c.table → FillHalf g c (run_count c.table)

-- Two regions are free, and fewer than so many more. Distinct objects that roots reach, humongous ones among them, have more than half of
-- the words of all regions but two and so many; of one more, unless just one region is ordinary. Each humongous object is one that roots
-- reach
pub record IsPackedBut (g : Graph) (c : CoreState) (more : ℕ) : Type 0 where
  pub packed : IsPacked g c
  pub two : 2 ≤ free_count c.table
  pub few : free_count c.table < 2 + more
  pub regions : ordinary_count c.table + run_count c.table + free_count c.table ≡ c.config.regions
  pub all_but : FillHalf g c (c.config.regions - (2 + more))
  pub all_but_fewer : ordinary_count c.table ≢ 1 → FillHalf g c (c.config.regions - (1 + more))
  pub runs : (k : ℕ) → kind_of c.table k ≡ kinds.First
      → (x : Stored) × (kept_of c (k * c.table.words_per_region) ≡ Some x) × IsReachable g x.name

-- what roots reach in the later graph they reach in the earlier one, and each object has as many words
pub record HasReached (g g' : Graph) : Type 0 where
  pub back : (n : ℕ) → IsReachable g' n → IsReachable g n
  pub words : (n : ℕ) → named_words (object_named g' n) ≡ named_words (object_named g n)

-- A whole collection was just done, for a heap that showed the graph before it: all that is kept is reachable in the graph
pub record IsCollected (g : Graph) (c : CoreState) : Type 0 where
  pub after : State
  pub quiet : IsQuiet after c
  pub reached : HasReached g after.graph
