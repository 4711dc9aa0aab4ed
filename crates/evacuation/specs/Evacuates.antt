-- What evacuating a set of regions asks of a heap, and what it does to it.
use Rattle.std.specs.Prelude.{◌≡◌, ◌≢◌, ◌⊎◌, ◌↔◌, ◌≤◌, ◌<◌, ◌+◌, ◌*◌, ◌/◌, ◌==◌, ◌∷◌, if◌then◌else◌}
use Rattle.std.specs.Prelude.{ℕ, Bool, true, false, List, [], Option, Some, None, All, length, slice_get, slice_index}
use Rattle.std.specs.List.{list_any}
use Rattle.std.specs.List.Sorted.{IsStrictlyIncreasing}
use Rattle.heap_model.specs.Heap.{Heap, Stored, IsClosed, fields}
use Rattle.heap_model.specs.Marking.{Marking}
use Rattle.heap_model.specs.Relocation.{Relocates, KeepsOld}
use Rattle.heap_model.specs.Evacuation.{IsReached, place_after}
use Rattle.regions.specs.Tiles.{Tile, Object, tile_size}
use Rattle.regions.specs.Table.{Table, AreHalves, HasNoForwarded, free_count, kind_of, object_at, tile_in, used_of}
use Rattle.regions.specs.declared.row.Kind.TheVariants as kinds
use Rattle.mark_bitmap.specs.declared.bitmaps.Bitmaps.{Bitmaps}
use Rattle.mark_bitmap.specs.Marks.{is_marked}
use Rattle.mark_bitmap.specs.Tops.{Tops, below_next}
use Rattle.mark_bitmap.specs.Kept.{MarksObjects, kept_in}
use Rattle.mark_bitmap.specs.Live.{live_bound_of}
use Rattle.cards.specs.Cards.{Cards, is_dirty}
use Rattle.bit_sets.specs.Bits.{has}
use Rattle.remembered_sets.specs.Sets.{Sets, card_count, covers, may_lead, emptied, set_of}
use Rattle.refinement.specs.Remembering.{Remembers, field_card, field_word}
use Rattle.refinement.specs.Refining.{SetsFit}
use Rattle.region_choice.specs.Choice.{live_sum}
use Rattle.region_choice.specs.declared.LiveRow.{LiveRow}

-- the layers of a heap that evacuation reads and changes
pub record Layers : Type 0 where
  pub table : Table
  pub tams : Tops
  -- the marks of both roles
  pub previous : List Bool
  pub next : List Bool
  pub cards : Cards
  -- the remembered set of each region
  pub sets : Sets
  pub roots : List (Option ℕ)

-- the layers, as `evacuate` takes them
abbrev pub all_layers : Table → Tops → Bitmaps → Cards → Sets → List (Option ℕ) → Layers
all_layers t tams bitmaps cs sets roots = record {
  table = t;
  tams = tams;
  previous = bitmaps.previous;
  next = bitmaps.next;
  cards = cs;
  sets = sets;
  roots = roots;
}

abbrev pub kept_of : Layers → ℕ → Option Stored
kept_of h = kept_in h.table h.tams h.previous

abbrev pub heap_of : Layers → Heap
heap_of h = record { kept = kept_of h; roots = h.roots }

-- whether a region is one of the rows'
abbrev pub is_chosen : List LiveRow → ℕ → Bool
is_chosen rows k = list_any (λ row. row.region == k) rows

-- the addresses in the rows' regions, regions having so many words
abbrev pub set_in : ℕ → List LiveRow → ℕ → Bool
set_in words rows a = is_chosen rows (a / words)

abbrev pub set_by : Layers → List LiveRow → ℕ → Bool
set_by h rows = set_in h.table.words_per_region rows

-- a region that may be evacuated, with its live bound
pub record IsLiveRow (h : Layers) (row : LiveRow) : Type 0 where
  pub known : row.region < length h.table.regions
  pub ordinary : kind_of h.table row.region ≡ kinds.Ordinary
  pub live_bound : row.live_bound ≡ live_bound_of h.table h.tams.previous h.previous row.region

-- no region stands in two rows
abbrev pub AreDistinct : List LiveRow → Type 0
AreDistinct rows =
    (i j : ℕ) (row other : LiveRow) → slice_get rows i ≡ Some row → slice_get rows j ≡ Some other → row.region ≡ other.region → i ≡ j

-- No card is dirty, so all crossing fields are in cards that may lead where they do; each root and each field of a kept object is nil or
-- leads to one; and the live objects of the rows' regions find room in the free regions, even if each destination is filled by half
pub record CanEvacuate (h : Layers) (rows : List LiveRow) (card_words : ℕ) : Type 0 where
  pub unmoved : HasNoForwarded h.table
  pub previous : MarksObjects h.table h.tams.previous h.previous
  pub next : MarksObjects h.table h.tams.next h.next
  pub closed : IsClosed (heap_of h)
  pub halves : AreHalves h.table
  pub fit : SetsFit h.table card_words h.sets
  pub each_card : length h.cards.dirty ≡ card_count h.sets
  pub clean : (card : ℕ) → is_dirty h.cards card ≡ false
  pub remembers : Remembers h.table.words_per_region (kept_of h) card_words (is_dirty h.cards) (may_lead h.sets)
  pub each_row : All (IsLiveRow h) rows
  pub distinct : AreDistinct rows
  pub room : 2 * live_sum rows ≤ free_count h.table * h.table.words_per_region

-- ---- what is copied
abbrev pub stored_words : Option Stored → ℕ
stored_words None = 0
stored_words (Some object) = tile_size (Object object)

abbrev pub words_at : (ℕ → Option Stored) → List ℕ → ℕ
words_at kept [] = 0
words_at kept (a ∷ rest) = stored_words (kept a) + words_at kept rest

-- each reached object of the set stands once in the list, and nothing else does; and they have so many words
pub record AreReachedWords (set : ℕ → Bool) (h : Heap) (words : ℕ) : Type 0 where
  pub addresses : List ℕ
  pub distinct : (i j a : ℕ) → slice_get addresses i ≡ Some a → slice_get addresses j ≡ Some a → i ≡ j
  pub reached : (i a : ℕ) → slice_get addresses i ≡ Some a → IsReached set h a
  pub each : (a : ℕ) → IsReached set h a → (i : ℕ) × (slice_get addresses i ≡ Some a)
  pub total : words_at h.kept addresses ≡ words

-- ---- what becomes of the regions
-- the same object, with as many pointers and weak slots, but that some of these are others
pub record IsSameBut (x y : Stored) : Type 0 where
  pub name : y.name ≡ x.name
  pub values : y.values ≡ x.values
  pub pointers : length y.pointers ≡ length x.pointers
  pub weaks : length y.weaks ≡ length x.weaks
  pub held : length y.held ≡ length x.held

-- Chosen regions are free, and free ones free or ordinary; what was free and is ordinary lies below what was free and still is, isn't
-- empty, and holds live objects alone. A region in use that isn't chosen is of its kind still, as many of its words are handed out, and
-- its objects are where they were, the same but for fields
pub record RegionsAfter (rows : List LiveRow) (t t' : Table) : Type 0 where
  pub size : t'.words_per_region ≡ t.words_per_region
  pub count : length t'.regions ≡ length t.regions
  pub chosen : (k : ℕ) → is_chosen rows k ≡ true → kind_of t' k ≡ kinds.Free
  pub was_free : (k : ℕ) → kind_of t k ≡ kinds.Free → (kind_of t' k ≡ kinds.Free) ⊎ (kind_of t' k ≡ kinds.Ordinary)
  pub lowest : (j k : ℕ) → kind_of t j ≡ kinds.Free → kind_of t' j ≡ kinds.Free → kind_of t k ≡ kinds.Free
      → kind_of t' k ≡ kinds.Ordinary → k < j
  pub filled : (k : ℕ) → kind_of t k ≡ kinds.Free → kind_of t' k ≡ kinds.Ordinary → 0 < used_of t' k
  pub live : (a : ℕ) (tile : Tile) → kind_of t (a / t.words_per_region) ≡ kinds.Free
      → tile_in t' a ≡ Some tile → (x : Stored) × (tile ≡ Object x)
  pub kinds_same : (k : ℕ) → is_chosen rows k ≡ false → kind_of t k ≢ kinds.Free → kind_of t' k ≡ kind_of t k
  pub used : (k : ℕ) → is_chosen rows k ≡ false → kind_of t k ≢ kinds.Free → used_of t' k ≡ used_of t k
  pub objects : (a : ℕ) (x : Stored) → set_in t.words_per_region rows a ≡ false → object_at t a ≡ Some x
      → (y : Stored) × (object_at t' a ≡ Some y) × IsSameBut x y
  pub none : (a : ℕ) → set_in t.words_per_region rows a ≡ false → kind_of t (a / t.words_per_region) ≢ kinds.Free
      → object_at t a ≡ None → object_at t' a ≡ None

-- How many free regions were taken for copies: the free regions now are those before, less so many, and the chosen ones. None is taken
-- where nothing was copied; and where two are, or more, the copies have more than half of their words, all together
pub record SparesRegions (rows : List LiveRow) (words : ℕ) (t t' : Table) : Type 0 where
  pub taken : ℕ
  pub count : free_count t' + taken ≡ free_count t + length rows
  pub none : words ≡ 0 → taken ≡ 0
  pub full : 2 ≤ taken → taken * t.words_per_region < 2 * words

-- the regions that are gone have no marks, and their tops at mark start are their bottoms; nothing else changes
pub record MarksAfter (words : ℕ) (gone : ℕ → Bool) (tops tops' : List ℕ) (marks marks' : List Bool) : Type 0 where
  pub count : length tops' ≡ length tops
  pub each_top : (k : ℕ) → k < length tops → slice_index tops' k ≡ (if gone k then k * words else slice_index tops k)
  pub each_word : length marks' ≡ length marks
  pub each_mark : (a : ℕ) → is_marked marks' a ≡ (if gone (a / words) then false else is_marked marks a)

-- a field of a kept object that leads into the region from another one, and didn't name this target before
pub record IsNewCrossing (h h' : Layers) (card_words card region : ℕ) : Type 0 where
  pub at : ℕ
  pub index : ℕ
  pub target : ℕ
  pub object : Stored
  pub is_kept : kept_of h' at ≡ Some object
  pub field : slice_get (fields object) index ≡ Some (Some target)
  pub in_card : field_card card_words at index ≡ card
  pub into : target / h'.table.words_per_region ≡ region
  pub leaves : target / h'.table.words_per_region ≢ field_word at index / h'.table.words_per_region
  pub is_new : (before : Stored) → kept_of h at ≡ Some before → slice_get (fields before) index ≢ Some (Some target)

-- nothing of the set is old, as marking sees it
abbrev pub IsNewSet : Layers → List LiveRow → Type 0
IsNewSet h rows = All (λ row. slice_index h.tams.next row.region ≡ row.region * h.table.words_per_region) rows

-- What became of the sets of regions that aren't chosen, and of the cards of these: what may have led somewhere still may; a set covers
-- nothing newly but cards of a region of which one has a field that was updated or copied and leads there; and such cards alone newly enter
-- a set
pub record SetsGain (rows : List LiveRow) (card_words : ℕ) (h h' : Layers) : Type 0 where
  pub stays : (k card : ℕ) → is_chosen rows k ≡ false → is_chosen rows (card / h.sets.cards_per_region) ≡ false
      → may_lead h.sets k card ≡ true → may_lead h'.sets k card ≡ true
  pub covered : (k c : ℕ) → is_chosen rows k ≡ false → covers h'.sets k c ≡ true → (covers h.sets k c ≡ true)
      ⊎ ((card : ℕ) × (card / h.sets.cards_per_region ≡ c / h.sets.cards_per_region) × IsNewCrossing h h' card_words card k)
  pub entered : (card : ℕ) → has h'.sets.entered card ≡ true → (is_chosen rows (card / h.sets.cards_per_region) ≡ false)
      × ((has h.sets.entered card ≡ true) ⊎ ((k : ℕ) × IsNewCrossing h h' card_words card k))

-- What is reached of the set is copied out of it, once, and what named it names its copy; then the set's regions are free. Fields that were
-- updated or copied and lead to another region are noted at once in that region's set, and no card is dirty, or else their cards are dirty
-- and the sets stay
pub record HasEvacuated (rows : List LiveRow) (at_once : Bool) (card_words words : ℕ) (h h' : Layers) : Type 0 where
  -- where the copies stand: in regions that were free
  pub forward : ℕ → Option ℕ
  pub placed : (a b : ℕ) → forward a ≡ Some b → kind_of h.table (b / h.table.words_per_region) ≡ kinds.Free
  pub relocates : Relocates (place_after (set_by h rows) forward) (heap_of h) (heap_of h')
  pub copied : (a : ℕ) → IsReached (set_by h rows) (heap_of h) a ↔ ((set_by h rows a ≡ true) × (b : ℕ) × (forward a ≡ Some b))
  pub keeps_old : IsNewSet h rows → (m : Marking) → ((a : ℕ) → m.old a ≡ below_next h.table h.tams a)
      → KeepsOld (place_after (set_by h rows) forward) (heap_of h) m
  pub words_are : AreReachedWords (set_by h rows) (heap_of h) words
  pub within : words ≤ live_sum rows
  pub regions : RegionsAfter rows h.table h'.table
  pub spares : SparesRegions rows words h.table h'.table
  -- a filler outside the set, and an object there that isn't kept, is as it was
  pub unkept : (a : ℕ) → set_by h rows a ≡ false → kind_of h.table (a / h.table.words_per_region) ≢ kinds.Free → kept_of h a ≡ None
      → tile_in h'.table a ≡ tile_in h.table a
  pub unmoved : HasNoForwarded h'.table
  pub halves : AreHalves h'.table
  pub previous : MarksAfter h.table.words_per_region (is_chosen rows) h.tams.previous h'.tams.previous h.previous h'.previous
  pub next : MarksAfter h.table.words_per_region (is_chosen rows) h.tams.next h'.tams.next h.next h'.next
  pub previous_stands : MarksObjects h'.table h'.tams.previous h'.previous
  pub next_stands : MarksObjects h'.table h'.tams.next h'.next
  pub remembers : Remembers h'.table.words_per_region (kept_of h') card_words (is_dirty h'.cards) (may_lead h'.sets)
  pub fit : SetsFit h'.table card_words h'.sets
  pub each_card : length h'.cards.dirty ≡ card_count h'.sets
  pub logs : h'.cards.logs ≡ h.cards.logs
  -- no card is dirty before, so the dirty cards are those of the queue now
  pub queue : IsStrictlyIncreasing h'.cards.queue
  -- a card is dirty only where a field was updated or copied that leads to another region
  pub dirty : (card : ℕ) → is_dirty h'.cards card ≡ true → (at_once ≡ false) × ((k : ℕ) × IsNewCrossing h h' card_words card k)
  pub cleared : (k : ℕ) → is_chosen rows k ≡ true → set_of h'.sets k ≡ emptied (set_of h.sets k)
  pub gains : SetsGain rows card_words h h'
  pub sets_same : at_once ≡ false → (k : ℕ) → is_chosen rows k ≡ false → set_of h'.sets k ≡ set_of h.sets k
  -- no card of a chosen region has entered a set, and the other cards have as they had
  pub entered : at_once ≡ false → (card : ℕ)
      → has h'.sets.entered card ≡ (if is_chosen rows (card / h.sets.cards_per_region) then false else has h.sets.entered card)
