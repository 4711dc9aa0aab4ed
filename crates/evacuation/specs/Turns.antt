-- A pause over the table, between two turns of its copying.
use Rattle.std.specs.Prelude.{◌≡◌, ◌≢◌, ◌⊎◌, ◌≤◌, ◌<◌, ◌+◌, ◌*◌, ◌/◌, if◌then◌else◌}
use Rattle.std.specs.Prelude.{ℕ, zero, suc, Bool, true, false, List, Option, Some, None, length, slice_get}
use Rattle.heap_model.specs.Heap.{Stored, fields}
use Rattle.heap_model.specs.Relocation.{Relocates}
use Rattle.heap_model.specs.Evacuation.{IsReached, place_after, released}
use Rattle.regions.specs.Tiles.{Tile, Object, Forwarded, tile_size}
use Rattle.regions.specs.Table.{Table, EachForwardedIn, HasNoForwarded, is_free, kind_of, moved_to}
use Rattle.regions.specs.Table.{object_at, nth_region, tile_in, used_of, free_count}
use Rattle.regions.specs.Shaped.{IsShaped}
use Rattle.regions.specs.declared.row.Kind.TheVariants as kinds
use Rattle.mark_bitmap.specs.Tops.{Tops}
use Rattle.mark_bitmap.specs.Kept.{MarksObjects, heap_in, kept_in}
use Rattle.object_copy.specs.Copies.{Destinations}
use Rattle.evacuation.specs.Evacuates.{AreReachedWords, IsSameBut, stored_words}
use Rattle.refinement.specs.Remembering.{field_word}
use Rattle.evacuation.specs.Space.{Layout, Plan, Space, AllVisited, IsAfter, IsCopying, IsPlan, IsSettled, IsDestination, flag, set_of}
use Rattle.evacuation.specs.declared.room.Context.{Context}
use Rattle.evacuation.specs.declared.room.Notes.{Notes}
use Rattle.evacuation.specs.declared.outside.Kept.{Kept}
use Rattle.evacuation.specs.declared.fields.CardPlace.{CardPlace}

-- the heap at the start, and what was chosen
pub record Pause : Type 0 where
  pub start : Table
  pub tams : Tops
  pub previous : List Bool
  pub roots : List (Option ℕ)
  -- a flag for each region
  pub chosen : List Bool
  pub card_words : ℕ
  pub cards_per_region : ℕ
  -- the most words to be copied
  pub limit : ℕ

abbrev pub layout : Pause → Layout
layout p = record { words = p.start.words_per_region; card_words = p.card_words; chosen = flag p.chosen }

abbrev pub plan : Pause → Plan
plan p = record {
  heap = heap_in p.start p.tams p.previous p.roots;
  limit = p.limit;
  places = length p.start.regions;
  frees = free_count p.start;
}

-- the words of the objects that are kept at one of n addresses from 0 on and lie in the set
abbrev pub left_words : (ℕ → Option Stored) → (ℕ → Bool) → ℕ → ℕ
left_words kept set zero = 0
left_words kept set (suc n) = (if set n then stored_words (kept n) else 0) + left_words kept set n

-- how many words the heap has
abbrev pub all_words : Pause → ℕ
all_words p = length p.start.regions * p.start.words_per_region

unfoldable pub kept_now : Pause → Table → ℕ → Option Stored
kept_now p t = kept_in t p.tams p.previous

-- what copying sees of the table
abbrev pub space : Pause → Table → Space
space p t = record {
  object = kept_now p t;
  forward = λ a. moved_to (tile_in t a);
  used = used_of t;
  free = λ k. is_free (nth_region t k);
  free_count = free_count t;
  left = left_words (kept_now p t) (set_of (layout p)) (all_words p);
}

abbrev pub in_set : Pause → ℕ → Bool
in_set p = set_of (layout p)

pub record IsPause (p : Pause) : Type 0 where
  pub shaped : IsShaped p.start
  pub unmoved : HasNoForwarded p.start
  pub plan_is : IsPlan (layout p) (plan p)
  pub each_region : length p.chosen ≡ length p.start.regions
  pub whole_cards : p.start.words_per_region ≡ p.cards_per_region * p.card_words
  pub previous_stands : MarksObjects p.start p.tams.previous p.previous
  pub ordinary : (k : ℕ) → flag p.chosen k ≡ true → kind_of p.start k ≡ kinds.Ordinary

-- What became of the table so far. Chosen regions are ordinary, with objects that stood there and such as moved out of the set;
-- a region in use that isn't chosen has its objects, the same but for the fields of kept ones; and a region that was free and isn't has
-- copies alone, one at least, and lies below those that are free still
pub record TableStays (p : Pause) (t : Table) : Type 0 where
  pub size : t.words_per_region ≡ p.start.words_per_region
  pub count : length t.regions ≡ length p.start.regions
  pub chosen : (k : ℕ) → flag p.chosen k ≡ true → kind_of t k ≡ kinds.Ordinary
  pub was_free : (k : ℕ) → kind_of p.start k ≡ kinds.Free → (kind_of t k ≡ kinds.Free) ⊎ (kind_of t k ≡ kinds.Ordinary)
  pub lowest : (j k : ℕ) → kind_of p.start j ≡ kinds.Free → kind_of t j ≡ kinds.Free → kind_of p.start k ≡ kinds.Free
      → kind_of t k ≡ kinds.Ordinary → k < j
  pub kinds_same : (k : ℕ) → flag p.chosen k ≡ false → kind_of p.start k ≢ kinds.Free → kind_of t k ≡ kind_of p.start k
  pub used : (k : ℕ) → flag p.chosen k ≡ false → kind_of p.start k ≢ kinds.Free → used_of t k ≡ used_of p.start k
  pub objects : (a : ℕ) (x : Stored) → in_set p a ≡ false → object_at p.start a ≡ Some x
      → (y : Stored) × (object_at t a ≡ Some y) × IsSameBut x y
  pub none : (a : ℕ) → in_set p a ≡ false → kind_of p.start (a / p.start.words_per_region) ≢ kinds.Free
      → object_at p.start a ≡ None → object_at t a ≡ None
  pub unkept : (a : ℕ) → in_set p a ≡ false → kind_of p.start (a / p.start.words_per_region) ≢ kinds.Free
      → kept_now p p.start a ≡ None → tile_in t a ≡ tile_in p.start a
  pub filled : (k : ℕ) → kind_of p.start k ≡ kinds.Free → kind_of t k ≡ kinds.Ordinary → 0 < used_of t k
  pub small : (a : ℕ) (x : Stored) → in_set p a ≡ false → kind_of p.start (a / p.start.words_per_region) ≡ kinds.Free
      → object_at t a ≡ Some x → 2 * tile_size (Object x) ≤ p.start.words_per_region
  pub moved : (a to n : ℕ) → tile_in t a ≡ Some (Forwarded to n) → in_set p a ≡ true
  pub live : (a : ℕ) (u : Tile) → kind_of p.start (a / p.start.words_per_region) ≡ kinds.Free
      → tile_in t a ≡ Some u → (x : Stored) × (u ≡ Object x)
  pub targets : EachForwardedIn (λ to. in_set p to ≡ false) t.regions

pub record IsTurn (p : Pause) (t : Table) (d : Destinations) : Type 0 where
  pub copying : IsCopying (layout p) (plan p) (space p t) d
  pub table : TableStays p t
  pub taken : (k : ℕ) → IsDestination d k → (kind_of p.start k ≡ kinds.Free) × (kind_of t k ≡ kinds.Ordinary) × (k < length p.start.regions)

abbrev pub After : Pause → Notes → Notes → Table → Table → Destinations → Destinations → Type 0
After p noted noted' t t' d d' = IsAfter (layout p) noted noted' (space p t) (space p t') d d'

-- a flag for each card
abbrev pub EachCard : Pause → List Bool → Type 0
EachCard p noted = length noted ≡ length p.start.regions * p.cards_per_region

-- each card can be noted, and each region has a set of cards
pub record AreNotes (p : Pause) (n : Notes) : Type 0 where
  pub each_card : EachCard p n.cards
  pub each_set : length n.sets.sets ≡ length p.start.regions
  pub set_cards : n.sets.cards_per_region ≡ p.cards_per_region

-- The pause stands: its premises hold, the turn is one of it, the flags are its set, its cards have so many words, and each of them can be
-- noted
pub record PauseStands (p : Pause) (t : Table) (c : Context) : Type 0 where
  pub premises : IsPause p
  pub turn : IsTurn p t c.destinations
  pub flags : c.chosen.items ≡ p.chosen
  pub card : c.card_words ≡ p.card_words
  pub notes : AreNotes p c.noted

-- the pause went on by some turns, and stands
pub record PauseGoesOn (p : Pause) (t t' : Table) (c c' : Context) : Type 0 where
  pub stands : PauseStands p t' c'
  pub after : After p c.noted c'.noted t t' c.destinations c'.destinations

-- the tops at mark start and the marks are those of the start
pub record AreKept (p : Pause) (kept : Kept) : Type 0 where
  pub tams : kept.tams.now ≡ p.tams
  pub marks : kept.marks.now ≡ p.previous

-- a card of the heap, and its region
pub record IsCardPlace (p : Pause) (place : CardPlace) : Type 0 where
  pub known : place.card < length p.start.regions * p.cards_per_region
  pub home : place.card / p.cards_per_region ≡ place.home

-- a flag for each card, and each card that has to be visited is flagged
pub record AreVisited (p : Pause) (visited : List Bool) : Type 0 where
  pub each_card : EachCard p visited
  pub all : AllVisited (layout p) (plan p) visited

-- a field of a kept object was this at the start
abbrev pub WasField : Pause → ℕ → ℕ → Option ℕ → Type 0
WasField p b i w = (x : Stored) × ((plan p).heap.kept b ≡ Some x) × (slice_get (fields x) i ≡ Some w)

-- Once all is copied: a field outside the set is the one that stood there, or settled: it names nothing of the set, and where it
-- leads to another region, its card is noted
pub record AreFieldsNoted (p : Pause) (noted : Notes) (t : Table) : Type 0 where
  pub field : (b i : ℕ) (y : Stored) (w : Option ℕ) → kept_now p t b ≡ Some y → in_set p b ≡ false → slice_get (fields y) i ≡ Some w
      → WasField p b i w ⊎ IsSettled (layout p) noted (field_word b i) w

-- no field outside the set names the set
abbrev pub AreFieldsClean : Pause → Table → Type 0
AreFieldsClean p t =
    (b i a : ℕ) (y : Stored) → kept_now p t b ≡ Some y → in_set p b ≡ false → slice_get (fields y) i ≡ Some (Some a) → in_set p a ≡ false

-- All that is reached of the set is copied, so many words in all, and roots and fields follow; each field outside that leads to another
-- region is noted or was there, and none names the set
pub record HasCopied (p : Pause) (t : Table) (c : Context) (roots : List (Option ℕ)) : Type 0 where
  pub moved : Relocates (place_after (in_set p) (space p t).forward) (plan p).heap
      (released (in_set p) (record { kept = kept_now p t; roots = roots }))
  pub reached : (a : ℕ) → IsReached (in_set p) (plan p).heap a → (b : ℕ) × ((space p t).forward a ≡ Some b)
  pub words : AreReachedWords (in_set p) (plan p).heap c.destinations.words
  pub noted : AreFieldsNoted p c.noted t
  pub clean : AreFieldsClean p t
