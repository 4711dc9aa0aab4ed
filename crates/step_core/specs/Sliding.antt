-- A run that a compaction moves down, and what a compaction does.
use Rattle.std.specs.Prelude.{◌≡◌, ◌≢◌, ◌⊎◌, ◌↔◌, ◌+◌, ◌*◌, ◌<◌, ◌≤◌, ℕ, Some, false, length}
use Rattle.bit_sets.specs.Bits.{is_between}
use Rattle.heap_words.specs.Configs.{card_words}
use Rattle.heap_model.specs.Heap.{Stored}
use Rattle.heap_model.specs.Redirection.{place_moved}
use Rattle.heap_model.specs.Relocation.{Relocates}
use Rattle.regions.specs.Tiles.{Object, tile_size}
use Rattle.regions.specs.Table.{Table, kind_of, moved_run, run_length, stored_size}
use Rattle.mark_bitmap.specs.Live.{live_bound_of}
use Rattle.regions.specs.declared.row.Kind.TheVariants as kinds
use Rattle.region_choice.specs.Ages.{AgesAfter}
use Rattle.evacuation.specs.Sliding.{Slide, HasRedirected, slide_of}
use Rattle.step_core.specs.declared.candidates.Choice.TheVariants as choices
use Rattle.regions.specs.Shaped.{IsShaped}
use Rattle.step_core.specs.Stands.{CoreState, IsCore, kept_of, heap_of}
use Rattle.step_core.specs.Reclaimed.{IsReclaimed}
use Rattle.step_core.specs.Forgetting.{HasForgotten, HasEmptied}
use Rattle.step_core.specs.Pause.{HasMoved}

-- a run begins at region `first`, its object is kept, and the regions directly below it are free, from `to` on
pub record IsMovable (c : CoreState) (first to : ℕ) : Type 0 where
  pub run : kind_of c.table first ≡ kinds.First
  pub object : Stored
  pub is_kept : kept_of c (first * c.table.words_per_region) ≡ Some object
  pub below : to < first
  pub free : (k : ℕ) → to ≤ k → k < first → kind_of c.table k ≡ kinds.Free

-- of those whose objects have at most so many words it is the lowest, and comes as far down as it can
pub record IsLowestMovable (c : CoreState) (words first to : ℕ) : Type 0 where
  pub movable : IsMovable c first to
  pub within : tile_size (Object movable.object) ≤ words
  pub lowest : (k j : ℕ) (m : IsMovable c k j) → tile_size (Object m.object) ≤ words → first ≤ k
  pub bottom : (j : ℕ) → IsMovable c first j → to ≤ j

abbrev pub slide_in : CoreState → ℕ → ℕ → Slide
slide_in c first to = slide_of c.table c.marker.tams c.marker.bitmaps.previous (card_words c.config) first to

-- a region that the run has left, n regions from `first` on, where it has n from `to` on now
pub record IsLeft (first to n k : ℕ) : Type 0 where
  pub old : first ≤ k
  pub within : k < first + n
  pub past : to + n ≤ k

-- what the regions are once a run of n from `first` on is one of n from `to` on, those from `to` up to `first` having been free
pub record RunKinds (first to n : ℕ) (t t' : Table) : Type 0 where
  pub size : t'.words_per_region ≡ t.words_per_region
  pub count : length t'.regions ≡ length t.regions
  pub head : kind_of t' to ≡ kinds.First
  pub later : (k : ℕ) → to < k → k < to + n → kind_of t' k ≡ kinds.Rest
  pub left : (k : ℕ) → to + n ≤ k → k < first + n → kind_of t' k ≡ kinds.Free
  pub others : (k : ℕ) → (k < to) ⊎ (first + n ≤ k) → kind_of t' k ≡ kind_of t k

-- nor has anything changed of what is live in other regions: their live bounds, and the words of the kept object at an address
pub record KeepsWords (first to n : ℕ) (c c' : CoreState) : Type 0 where
  pub bounds : (k : ℕ) → (k < to) ⊎ (first + n ≤ k)
      → live_bound_of c'.table c'.marker.tams.previous c'.marker.bitmaps.previous k
      ≡ live_bound_of c.table c.marker.tams.previous c.marker.bitmaps.previous k
  pub words : (a : ℕ) → a ≢ first * c.table.words_per_region → a ≢ to * c.table.words_per_region
      → stored_size (kept_of c' a) ≡ stored_size (kept_of c a)

-- The run that begins at region `first`, n regions and w words, begins at region `to`. What named its object names the new place; marks,
-- tops at mark start, sets and ages of its old regions are forgotten, and those that it leaves are free. Nothing else changes
pub record MovesRun (first to n w : ℕ) (c c' : CoreState) : Type 0 where
  pub movable : IsMovable c first to
  pub regions : n ≡ run_length c.table first
  pub words : w ≡ tile_size (Object movable.object)
  pub relocates : Relocates (place_moved (first * c.table.words_per_region) (to * c.table.words_per_region)) (heap_of c) (heap_of c')
  pub between : Table
  pub redirected : HasRedirected (slide_in c first to) c.table between c.cards c'.cards
  pub table : c'.table ≡ moved_run between first to
  pub forgotten : HasForgotten c.table.words_per_region first n c.marker c'.marker
  pub emptied : HasEmptied first n c.sets c'.sets
  pub ages : AgesAfter (is_between first (first + n)) c.ages c'.ages
  pub kinds_are : RunKinds first to n c.table c'.table
  pub others : KeepsWords first to n c c'
  pub reclaimed : (k : ℕ) → IsReclaimed c.table c'.table k ↔ IsLeft first to n k
  pub same : c' ≡ record c {
    table = c'.table;
    marker = c'.marker;
    cards = c'.cards;
    sets = c'.sets;
    roots = c'.roots;
    ages = c'.ages;
  }

-- no run moves: marking runs, or none of at most so many words can
pub record StaysStill (words n w : ℕ) (c c' : CoreState) : Type 0 where
  pub regions : n ≡ 0
  pub copied : w ≡ 0
  pub same : c' ≡ c
  pub none : c.marker.running ≡ false → (k j : ℕ) (m : IsMovable c k j) → tile_size (Object m.object) ≤ words → ⊥

-- the lowest run that can moves down, where marking doesn't run, or none does
abbrev pub Slides : ℕ → ℕ → ℕ → CoreState → CoreState → Type 0
Slides words n w c c' = StaysStill words n w c c'
    ⊎ ((first to : ℕ) × (c.marker.running ≡ false) × IsLowestMovable c words first to × MovesRun first to n w c c')

-- the set is empty, and a run moves then, or none does
pub record SlidesAfter (budget n w : ℕ) (c c' : CoreState) : Type 0 where
  pub after : CoreState
  pub empty : HasMoved choices.Highest budget 0 0 c after
  pub core : IsCore after
  pub shaped : IsShaped after.table
  pub slides : Slides budget n w after c'

-- a compaction moves the highest ordinary regions that go down, and where there are none a run
abbrev pub HasCompacted : ℕ → ℕ → ℕ → CoreState → CoreState → Type 0
HasCompacted budget n w c c' = ((0 < n) × HasMoved choices.Highest budget n w c c') ⊎ SlidesAfter budget n w c c'

-- a region that the run that a compaction moves may leave: its set is empty, and once it has evacuated that one, the run is the lowest that
-- can move
pub record MayLeave (budget : ℕ) (c : CoreState) (k : ℕ) : Type 0 where
  pub after : CoreState
  pub empty : HasMoved choices.Highest budget 0 0 c after
  pub idle : after.marker.running ≡ false
  pub first : ℕ
  pub to : ℕ
  pub lowest : IsLowestMovable after budget first to
  pub left : IsLeft first to (run_length after.table first) k
