-- What names the object of a run that moves, as it is redirected word by word.
use Rattle.std.specs.Prelude.{◌≡◌, ◌≢◌, ◌⊎◌, ◌*◌, ◌/◌, ◌<◌, ℕ, Bool, true, false, List, Option, Some, None, length}
use Rattle.std.specs.Prelude.{slice_get}
use Rattle.std.specs.List.Sorted.{IsStrictlyIncreasing}
use Rattle.heap_model.specs.Heap.{Stored, fields}
use Rattle.regions.specs.Table.{Table, HasNoForwarded, fields_at, kind_of, object_at, tile_in, used_of}
use Rattle.regions.specs.declared.row.Kind.TheVariants as kinds
use Rattle.mark_bitmap.specs.Tops.{Tops}
use Rattle.mark_bitmap.specs.Kept.{kept_in}
use Rattle.cards.specs.Cards.{Cards, is_dirty}
use Rattle.remembered_sets.specs.Sets.{Sets, card_count, may_lead}
use Rattle.refinement.specs.Remembering.{Remembers, field_card, field_word}
use Rattle.refinement.specs.Refining.{SetsFit}
use Rattle.evacuation.specs.declared.outside.Kept.{Kept}
use Rattle.evacuation.specs.declared.slide.Way.{Way}
use Rattle.evacuation.specs.Evacuates.{IsSameBut}
use Rattle.evacuation.specs.Space.{flag}

-- What stays the same meanwhile: how many regions there are, words a region, words a card, cards a region; tops at mark start and marks;
-- where the object is, and where it comes to
pub record Slide : Type 0 where
  pub regions : ℕ
  pub words : ℕ
  pub card_words : ℕ
  pub cards_per_region : ℕ
  pub tams : Tops
  pub marks : List Bool
  pub from : ℕ
  pub to : ℕ

-- the kept object at an address
unfoldable pub kept_at : Slide → Table → ℕ → Option Stored
kept_at s t = kept_in t s.tams s.marks

-- the table and the notes are of these sizes, and the two places differ
pub record SlideStands (s : Slide) (t : Table) (noted : List Bool) : Type 0 where
  pub size : t.words_per_region ≡ s.words
  pub count : length t.regions ≡ s.regions
  pub whole_cards : s.words ≡ s.cards_per_region * s.card_words
  pub each_mark : length s.marks ≡ s.regions * s.words
  pub each_card : length noted ≡ s.regions * s.cards_per_region
  pub apart : s.from ≢ s.to

-- the word's card is noted where the word's target lies in another region, and no other card is that wasn't
pub record NotesCard (s : Slide) (noted noted' : List Bool) (word target : ℕ) : Type 0 where
  pub is_noted : (target / s.words ≡ word / s.words) ⊎ (flag noted' (word / s.card_words) ≡ true)
  pub grows : (card : ℕ) → flag noted card ≡ true → flag noted' card ≡ true
  pub count : length noted' ≡ length noted
  pub only : (card : ℕ) → flag noted' card ≡ true
      → (flag noted card ≡ true) ⊎ ((card ≡ word / s.card_words) × (target / s.words ≢ word / s.words))

-- the two places, and what tells which objects are kept, are those
abbrev pub IsWay : Slide → Way → Type 0
IsWay s w = (w.from ≡ s.from) × (w.to ≡ s.to)

abbrev pub AreKeptIn : Slide → Kept → Type 0
AreKeptIn s k = (k.tams.now ≡ s.tams) × (k.marks.now ≡ s.marks)

-- the same object, of which each field is as it was, or names the new place where it named the old one
pub record IsRedirectedInPart (s : Slide) (x y : Stored) : Type 0 where
  pub same : IsSameBut x y
  pub each : (i : ℕ) (v : Option ℕ) → slice_get (fields x) i ≡ Some v
      → (slice_get (fields y) i ≡ Some v) ⊎ ((v ≡ Some s.from) × (slice_get (fields y) i ≡ Some (Some s.to)))

-- some fields of kept objects that named the old place name the new one, and nothing else of the table changed
pub record RedirectsSome (s : Slide) (t t' : Table) : Type 0 where
  pub size : t'.words_per_region ≡ t.words_per_region
  pub count : length t'.regions ≡ length t.regions
  pub kinds : (k : ℕ) → kind_of t' k ≡ kind_of t k
  pub used : (k : ℕ) → used_of t' k ≡ used_of t k
  pub unmoved : HasNoForwarded t → HasNoForwarded t'
  pub objects : (a : ℕ) (x : Stored) → object_at t a ≡ Some x → (y : Stored) × (object_at t' a ≡ Some y) × IsRedirectedInPart s x y
  pub unkept : (a : ℕ) → kept_at s t a ≡ None → tile_in t' a ≡ tile_in t a

-- field i of the kept object at an address names the target
pub record Names (s : Slide) (t : Table) (a i target : ℕ) : Type 0 where
  pub object : Stored
  pub is : kept_at s t a ≡ Some object
  pub field : slice_get (fields object) i ≡ Some (Some target)

-- it named the old place, and names the new one
abbrev pub IsChanged : Slide → Table → Table → ℕ → ℕ → Type 0
IsChanged s t t' a i = Names s t a i s.from × Names s t' a i s.to

-- a changed field is in a card
abbrev pub HasChanged : Slide → Table → Table → ℕ → Type 0
HasChanged s t t' card = (a i : ℕ) × IsChanged s t t' a i × (field_card s.card_words a i ≡ card)

-- some fields were redirected: the cards of all of them are noted, and no others are, all of them such as are visited
pub record SlideGoesOn (s : Slide) (visits : ℕ → Type 0) (t t' : Table) (noted noted' : List Bool) : Type 0 where
  pub stands : SlideStands s t' noted'
  pub table : RedirectsSome s t t'
  pub grows : (card : ℕ) → flag noted card ≡ true → flag noted' card ≡ true
  pub each : (a i : ℕ) → IsChanged s t t' a i → flag noted' (field_card s.card_words a i) ≡ true
  pub only : (card : ℕ) → flag noted' card ≡ true → (flag noted card ≡ true) ⊎ (visits card × HasChanged s t t' card)

-- no field of the object at an address, or of any kept object, that is in a card names the old place
abbrev pub IsObjectUnnamed : Slide → Table → ℕ → ℕ → Type 0
IsObjectUnnamed s t card a = (i : ℕ) → Names s t a i s.from → field_card s.card_words a i ≡ card → ⊥

abbrev pub IsCardUnnamed : Slide → Table → ℕ → Type 0
IsCardUnnamed s t card = (a : ℕ) → IsObjectUnnamed s t card a

-- a field of the object itself leads to another region from its new place
pub record LeadsOut (s : Slide) (t : Table) (i : ℕ) : Type 0 where
  pub target : ℕ
  pub names : Names s t s.from i target
  pub leaves : target / s.words ≢ field_word s.to i / s.words

-- The fields of the object itself below one name no old place, and the cards that those which lead out have at the new place are noted, and
-- no others are; nothing else of the table changed
pub record OwnGoesOn (s : Slide) (n : ℕ) (t t' : Table) (noted noted' : List Bool) : Type 0 where
  pub stands : SlideStands s t' noted'
  pub table : RedirectsSome s t t'
  pub others : (a : ℕ) → a ≢ s.from → tile_in t' a ≡ tile_in t a
  pub grows : (card : ℕ) → flag noted card ≡ true → flag noted' card ≡ true
  pub unnamed : (i : ℕ) → i < n → Names s t' s.from i s.from → ⊥
  pub each : (i : ℕ) → i < n → LeadsOut s t' i → flag noted' (field_card s.card_words s.to i) ≡ true
  pub only : (card : ℕ) → flag noted' card ≡ true
      → (flag noted card ≡ true) ⊎ ((i : ℕ) × (i < n) × LeadsOut s t' i × (field_card s.card_words s.to i ≡ card))

-- the fields in visited cards first, and then those of the object itself
pub record RedirectsInTurn (s : Slide) (visited : List Bool) (t t' : Table) (noted noted' : List Bool) : Type 0 where
  pub table : Table
  pub notes : List Bool
  pub cards : SlideGoesOn s (λ c. flag visited c ≡ true) t table noted notes
  pub unnamed : (card : ℕ) → flag visited card ≡ true → IsCardUnnamed s table card
  pub own : OwnGoesOn s (length (fields_at table s.from)) table t' notes noted'

-- ---- all that names the object
-- the slide of the run that begins at one region to another
abbrev pub slide_of : Table → Tops → List Bool → ℕ → ℕ → ℕ → Slide
slide_of t tams marks card_words first to = record {
  regions = length t.regions;
  words = t.words_per_region;
  card_words = card_words;
  cards_per_region = t.words_per_region / card_words;
  tams = tams;
  marks = marks;
  from = first * t.words_per_region;
  to = to * t.words_per_region;
}

-- No card is dirty, so all fields of other regions that name the object are in cards that may lead into its first one; and it is kept
pub record CanRedirect (t : Table) (tams : Tops) (marks : List Bool) (cards : Cards) (sets : Sets) (card_words first to : ℕ) : Type 0 where
  pub fit : SetsFit t card_words sets
  pub each_mark : length marks ≡ length t.regions * t.words_per_region
  pub each_card : length cards.dirty ≡ card_count sets
  pub clean : (card : ℕ) → is_dirty cards card ≡ false
  pub remembers : Remembers t.words_per_region (kept_in t tams marks) card_words (is_dirty cards) (may_lead sets)
  pub known : first < length t.regions
  pub run : kind_of t first ≡ kinds.First
  pub below : to < first
  pub object : Stored
  pub is_kept : kept_in t tams marks (first * t.words_per_region) ≡ Some object

-- Nothing names the old place any more, and what did names the new one. The cards of changed fields outside are dirty, and those that the
-- object's own fields have at the new place where they lead out from there, and no others
pub record HasRedirected (s : Slide) (t t' : Table) (cards cards' : Cards) : Type 0 where
  pub table : RedirectsSome s t t'
  pub unnamed : (a i : ℕ) → Names s t' a i s.from → ⊥
  pub outside : (a i : ℕ) → a ≢ s.from → IsChanged s t t' a i → is_dirty cards' (field_card s.card_words a i) ≡ true
  pub own : (i : ℕ) → LeadsOut s t' i → is_dirty cards' (field_card s.card_words s.to i) ≡ true
  pub only : (card : ℕ) → is_dirty cards' card ≡ true
      → ((a i : ℕ) × (a ≢ s.from) × IsChanged s t t' a i × (field_card s.card_words a i ≡ card))
      ⊎ ((i : ℕ) × LeadsOut s t' i × (field_card s.card_words s.to i ≡ card))
  pub logs : cards'.logs ≡ cards.logs
  pub queue : IsStrictlyIncreasing cards'.queue
  pub each_card : length cards'.dirty ≡ length cards.dirty
