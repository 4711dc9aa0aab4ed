-- The heaps that the tests evacuate.
use Rattle.std.specs.Prelude.{◌≡◌, false, Some, Option, ℕ, List, [], ◌∷◌, replicate, ◌*◌, ◌/◌, ◌<◌, ◌≤◌, ◌⊎◌, length, slice_get, true, Bool}
use Rattle.heap_model.specs.Heap.{Stored, fields}
use Rattle.regions.specs.Tiles.{Object, tile_size}
use Rattle.regions.specs.Table.{Region, Table, Free, Ordinary, HasNoForwarded, free_count, kind_of, object_at}
use Rattle.mark_bitmap.specs.Tops.{bottoms, is_below}
use Rattle.cards.specs.Cards.{clean_cards}
use Rattle.remembered_sets.specs.Sets.{Sets, added, empty_sets, may_lead}
use Rattle.evacuation.specs.Evacuates.{Layers}
use Rattle.mark_bitmap.specs.Live.{live_bound_of}
use Rattle.region_choice.specs.Choice.{live_sum}
use Rattle.region_choice.specs.declared.LiveRow.{LiveRow}
use Rattle.refinement.specs.Remembering.{field_card, field_word}
use Rattle.regions.specs.declared.row.Kind.TheVariants as kinds

-- regions of sixteen words
abbrev pub sample_of : List Region → Table
sample_of regions = record { words_per_region = 16; regions = regions }

-- an object whose one pointer and one weak slot name the address 0
abbrev pub selfish : Stored
selfish = record { name = 7; pointers = Some 0 ∷ []; weaks = Some 0 ∷ []; held = []; values = [] }

-- it is at 0, and three regions are free
abbrev pub itself : Table
itself = sample_of (Ordinary (Object selfish ∷ []) ∷ Free ∷ Free ∷ Free ∷ [])

-- an object whose one weak slot holds a word, and one with no field
abbrev pub holder : Option ℕ → Stored
holder w = record { name = 7; pointers = []; weaks = w ∷ []; held = []; values = [] }

abbrev pub held : Stored
held = record { name = 8; pointers = []; weaks = []; held = []; values = [] }

-- the first is at 0, its weak slot names the second, which is at 16, and two regions are free
abbrev pub by_weak_slot : Table
by_weak_slot = sample_of (Ordinary (Object (holder (Some 16)) ∷ []) ∷ Ordinary (Object held ∷ []) ∷ Free ∷ Free ∷ [])

-- for region 1 card 0 is remembered, and card 4, of a free region
abbrev pub two_cards : Sets
two_cards = added (added (empty_sets 4 2 0) 1 0) 1 4

-- nothing is marked or dirty, and one root names what is at 0
pub record IsFresh (table : Table) (sets : Sets) (h : Layers) : Type 0 where
  pub table_is : h.table ≡ table
  pub previous_tops : h.tams.previous ≡ bottoms 4 16
  pub next_tops : h.tams.next ≡ bottoms 4 16
  pub previous : h.previous ≡ replicate 64 false
  pub next : h.next ≡ replicate 64 false
  pub cards : h.cards ≡ clean_cards 8 1
  pub sets_are : h.sets ≡ sets
  pub roots : h.roots ≡ Some 0 ∷ []

-- a table of four regions of sixteen words with its sets, of which the row's region is evacuated
pub record IsSuited (t : Table) (s : Sets) (row : LiveRow) : Type 0 where
  pub words : t.words_per_region ≡ 16
  pub count : length t.regions ≡ 4
  pub cards : s.cards_per_region ≡ 2
  pub each : length s.sets ≡ 4
  pub unmoved : HasNoForwarded t
  pub first : (x : Stored) × (object_at t 0 ≡ Some x)
  pub low : (a : ℕ) (x : Stored) → object_at t a ≡ Some x → is_below 16 (bottoms 4 16) a ≡ false
  pub inside : (b i a : ℕ) (y : Stored) → object_at t b ≡ Some y → slice_get (fields y) i ≡ Some (Some a)
      → (x : Stored) × (object_at t a ≡ Some x)
  pub halves : (a : ℕ) (x : Stored) → object_at t a ≡ Some x → 2 * tile_size (Object x) ≤ 16
  pub remembered : (a i b : ℕ) (y : Stored) → object_at t a ≡ Some y → slice_get (fields y) i ≡ Some (Some b)
      → (b / 16 ≡ field_word a i / 16) ⊎ (may_lead s (b / 16) (field_card 8 a i) ≡ true)
  pub known : row.region < 4
  pub ordinary : kind_of t row.region ≡ kinds.Ordinary
  pub bound : (marks : List Bool) → row.live_bound ≡ live_bound_of t (bottoms 4 16) marks row.region
  pub room : 2 * live_sum (row ∷ []) ≤ free_count t * t.words_per_region
