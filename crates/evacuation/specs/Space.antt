-- What copying sees of a heap, and what it keeps from one copied object to the next.
use Rattle.std.specs.Prelude.{◌≡◌, ◌≢◌, ◌⊎◌, ◌≤◌, ◌<◌, ◌+◌, ◌*◌, ◌/◌, ◌^◌, ◌∷◌, ◌++◌}
use Rattle.std.specs.Prelude.{ℕ, Bool, true, false, List, [], Option, Some, None, slice_get, slice_index_or, slice_set, length, ⊤}
use Rattle.std.specs.Prelude.{◌||◌, if◌then◌else◌}
use Rattle.heap_model.specs.Heap.{Heap, Stored, IsClosed, fields, with_field}
use Rattle.heap_model.specs.Relocation.{IsMoved}
use Rattle.heap_model.specs.Evacuation.{IsEvacuating, IsReached, place_after}
use Rattle.regions.specs.Tiles.{Object, tile_size}
use Rattle.object_copy.specs.Copies.{Destinations}
use Rattle.refinement.specs.Remembering.{field_word}
use Rattle.bit_sets.specs.Bits.{has}
use Rattle.remembered_sets.specs.Sets.{AreSets, Sets, added, covers, emptied, may_lead}
use Rattle.remembered_sets.specs.Sets as remembered
use Rattle.evacuation.specs.Evacuates.{words_at}
use Rattle.evacuation.specs.declared.room.Notes.{Notes}

-- what stays the same: how many words a region and a card have, and which regions are evacuated
pub record Layout : Type 0 where
  pub words : ℕ
  pub card_words : ℕ
  pub chosen : ℕ → Bool

abbrev pub set_of : Layout → ℕ → Bool
set_of l a = l.chosen (a / l.words)

-- the heap at the start, the most words to be copied, how many destinations there can be, and how many regions were free
pub record Plan : Type 0 where
  pub heap : Heap
  pub limit : ℕ
  pub places : ℕ
  pub frees : ℕ

pub record Space : Type 0 where
  pub object : ℕ → Option Stored  -- the kept object at an address
  pub forward : ℕ → Option ℕ  -- where the object at an address went
  pub used : ℕ → ℕ  -- how many words of a region are handed out
  pub free : ℕ → Bool  -- whether a region is free
  pub free_count : ℕ
  pub left : ℕ  -- the words of the kept objects in the regions that are evacuated

abbrev pub flag : List Bool → ℕ → Bool
flag flags k = slice_index_or flags k false

abbrev pub words_of : Stored → ℕ
words_of x = tile_size (Object x)

abbrev pub IsSpaceObject : Space → ℕ → Type 0
IsSpaceObject s a = (x : Stored) × (s.object a ≡ Some x)

pub record IsField (s : Space) (a i : ℕ) : Type 0 where
  pub object : Stored
  pub at : s.object a ≡ Some object
  pub within : i < length (fields object)

abbrev pub filled : Space → Option ℕ → Option ℕ
filled s None = None
filled s (Some k) = Some (s.used k)

-- ---- room: each object has at most half of a region's words, so a destination that is closed for want of room is more
-- than half full
abbrev pub HasCopyRoom : ℕ → ℕ → Option ℕ → ℕ → Type 0
HasCopyRoom words free None left = 2 * left ≤ free * words
HasCopyRoom words free (Some fill) left = 2 * (left + fill) ≤ (free + 1) * words

-- n destinations have so many copied words, the open one `fill` of them: those that are closed are more than half full, and where there are
-- two or more in all, they are so all together
pub record AreFilled (words n fill copied : ℕ) : Type 0 where
  pub some : 0 < n
  pub any : 0 < copied
  pub closed : n * words + 2 * fill ≤ 2 * copied + words
  pub all : 2 ≤ n → n * words < 2 * copied

-- the same where the open destination has so many words, if there is one; where there is none, there are no destinations
abbrev pub AreSpared : ℕ → ℕ → Option ℕ → ℕ → Type 0
AreSpared words n None copied = n ≡ 0
AreSpared words n (Some fill) copied = AreFilled words n fill copied

-- what was copied, each once, and its words
pub record IsTally (set : ℕ → Bool) (h : Heap) (forward : ℕ → Option ℕ) (words : ℕ) : Type 0 where
  pub from : List ℕ
  pub distinct : (i j a : ℕ) → slice_get from i ≡ Some a → slice_get from j ≡ Some a → i ≡ j
  pub forwarded : (i a : ℕ) → slice_get from i ≡ Some a → (set a ≡ true) × (b : ℕ) × (forward a ≡ Some b)
  pub each : (a b : ℕ) → set a ≡ true → forward a ≡ Some b → (i : ℕ) × (slice_get from i ≡ Some a)
  pub total : words_at h.kept from ≡ words

pub record IsPlan (l : Layout) (p : Plan) : Type 0 where
  pub closed : IsClosed p.heap
  pub small : (a : ℕ) (x : Stored) → p.heap.kept a ≡ Some x → set_of l a ≡ true → 2 * words_of x ≤ l.words
  pub limit : p.limit < 2 ^ 32

pub record IsDestination (d : Destinations) (k : ℕ) : Type 0 where
  pub at : ℕ
  pub is : slice_get d.regions at ≡ Some k

abbrev pub seen_as : Space → Heap → Heap
seen_as s h = record { kept = s.object; roots = h.roots }

-- between two copies. The roots are left aside
pub record IsCopying (l : Layout) (p : Plan) (s : Space) (d : Destinations) : Type 0 where
  pub heap : IsEvacuating (set_of l) p.heap s.forward (seen_as s p.heap)
  pub free : (k : ℕ) → s.free k ≡ true → l.chosen k ≡ false
  pub taken : (k : ℕ) → IsDestination d k → l.chosen k ≡ false
  pub last : (k : ℕ) → d.last ≡ Some k → IsDestination d k
  pub last_at : (k i : ℕ) → d.last ≡ Some k → slice_get d.regions i ≡ Some k → i + 1 ≡ length d.regions
  pub apart : (k : ℕ) → IsDestination d k → s.free k ≡ false
  pub placed : (a b : ℕ) → set_of l a ≡ true → s.forward a ≡ Some b → IsDestination d (b / l.words)
  pub room : HasCopyRoom l.words s.free_count (filled s d.last) s.left
  pub list : s.free_count ≤ d.room
  pub limit : d.words + s.left ≤ p.limit
  pub tally : IsTally (set_of l) p.heap s.forward d.words
  pub places : length d.regions + d.room ≡ p.places
  pub frees : s.free_count + length d.regions ≡ p.frees
  pub spared : AreSpared l.words (length d.regions) (filled s d.last) d.words

-- an object of the set that is reached
pub record IsNamed (l : Layout) (p : Plan) (a : ℕ) : Type 0 where
  pub object : Stored
  pub at : p.heap.kept a ≡ Some object
  pub inside : set_of l a ≡ true
  pub reached : IsReached (set_of l) p.heap a

-- ---- fields
-- the word names nothing of the set
abbrev pub IsOutsideSet : Layout → Option ℕ → Type 0
IsOutsideSet l None = ⊤
IsOutsideSet l (Some c) = set_of l c ≡ false

-- ---- what is noted
-- it is noted that a field in the card may lead into the region: the card is one of those that become dirty, or the region's set tells
abbrev pub is_noted : Notes → ℕ → ℕ → Bool
is_noted n card region = flag n.cards card || may_lead n.sets region card

-- the notes once it is noted: in the region's set where that is done at once, else among the cards
abbrev pub with_note : Notes → ℕ → ℕ → Notes
with_note n card region =
    if n.at_once then record n { sets = added n.sets region card } else record n { cards = slice_set n.cards card true }

-- the sets are as many, with as many cards, and as large once they are emptied, and what may have led into a region still may
pub record SetsGrow (s s' : Sets) : Type 0 where
  pub cards : s'.cards_per_region ≡ s.cards_per_region
  pub count : length s'.sets ≡ length s.sets
  pub emptied_same : (k : ℕ) → emptied (remembered.set_of s' k) ≡ emptied (remembered.set_of s k)
  pub leads : (k card : ℕ) → may_lead s k card ≡ true → may_lead s' k card ≡ true

-- nothing is forgotten: sets stay where notes are made among the cards, and cards where they are made at once
pub record NotesGrow (n n' : Notes) : Type 0 where
  pub at_once : n'.at_once ≡ n.at_once
  pub noted : (card region : ℕ) → is_noted n card region ≡ true → is_noted n' card region ≡ true
  pub count : length n'.cards ≡ length n.cards
  pub sets : SetsGrow n.sets n'.sets
  pub late : n.at_once ≡ false → n'.sets ≡ n.sets
  pub early : n.at_once ≡ true → n'.cards ≡ n.cards

-- Something is newly noted for these cards and regions alone: a card that becomes dirty; a card that entered a set; a card that a region's
-- set covers, which lies in the noted card's region
pub record NotesFor (may : ℕ → ℕ → Type 0) (n n' : Notes) : Type 0 where
  pub cards : (c : ℕ) → flag n'.cards c ≡ true → (flag n.cards c ≡ true) ⊎ ((k : ℕ) × may c k)
  pub entered : (c : ℕ) → has n'.sets.entered c ≡ true → (has n.sets.entered c ≡ true) ⊎ ((k : ℕ) × may c k)
  pub covered : (c k : ℕ) → covers n'.sets k c ≡ true → (covers n.sets k c ≡ true)
      ⊎ ((card : ℕ) × (card / n.sets.cards_per_region ≡ c / n.sets.cards_per_region) × may card k)

-- where the word's target lies in another region, that is noted for the word's card
abbrev pub IsCardNoted : Layout → Notes → ℕ → Option ℕ → Type 0
IsCardNoted l noted at None = ⊤
IsCardNoted l noted at (Some c) = (c / l.words ≡ at / l.words) ⊎ (is_noted noted (at / l.card_words) (c / l.words) ≡ true)

abbrev pub IsSettled : Layout → Notes → ℕ → Option ℕ → Type 0
IsSettled l noted at w = IsOutsideSet l w × IsCardNoted l noted at w

-- the word's card, and the region of its target, which is another one than the word's
pub record IsOfWord (l : Layout) (word target card region : ℕ) : Type 0 where
  pub card_is : card ≡ word / l.card_words
  pub region_is : region ≡ target / l.words
  pub leaves : target / l.words ≢ word / l.words

-- it is noted for the word's card where the word's target lies in another region, and nothing else is that wasn't
pub record NotesWord (l : Layout) (noted noted' : Notes) (word target : ℕ) : Type 0 where
  pub is_noted : IsCardNoted l noted' word (Some target)
  pub grows : NotesGrow noted noted'
  pub only : NotesFor (IsOfWord l word target) noted noted'

-- a word that named the set, and is settled now
pub record IsUpdated (l : Layout) (noted : Notes) (at : ℕ) (was is : Option ℕ) : Type 0 where
  pub target : ℕ
  pub named : was ≡ Some target
  pub inside : set_of l target ≡ true
  pub settled : IsSettled l noted at is

-- an object of so many fields stands here
abbrev pub IsStill : Space → ℕ → ℕ → Type 0
IsStill s b n = (y : Stored) × (s.object b ≡ Some y) × (length (fields y) ≡ n)

-- a field outside the set that leads into the region from another one: a copy's, or one that named the set
pub record NewCrossing (l : Layout) (s s' : Space) (d' : Destinations) (card region : ℕ) : Type 0 where
  pub at : ℕ
  pub index : ℕ
  pub target : ℕ
  pub object : Stored
  pub here : s'.object at ≡ Some object
  pub outside : set_of l at ≡ false
  pub field : slice_get (fields object) index ≡ Some (Some target)
  pub clean : set_of l target ≡ false
  pub in_card : field_word at index / l.card_words ≡ card
  pub into : target / l.words ≡ region
  pub leaves : target / l.words ≢ field_word at index / l.words
  pub is_new : IsDestination d' (at / l.words)
      ⊎ ((y : Stored) → s.object at ≡ Some y → (v : ℕ) × (slice_get (fields y) index ≡ Some (Some v)) × (set_of l v ≡ true))

-- Objects outside the set stay, and each of their fields is as it was or was updated. New ones stand above what was handed out
-- before, and none in a closed destination
pub record IsAfter (l : Layout) (noted noted' : Notes) (s s' : Space) (d d' : Destinations) : Type 0 where
  pub noted_grows : NotesGrow noted noted'
  pub noted_for : NotesFor (NewCrossing l s s' d') noted noted'
  pub forward_grows : (a b : ℕ) → s.forward a ≡ Some b → s'.forward a ≡ Some b
  pub taken_grows : (i k : ℕ) → slice_get d.regions i ≡ Some k → slice_get d'.regions i ≡ Some k
  pub used_grows : (k : ℕ) → s.used k ≤ s'.used k
  pub stays : (b : ℕ) (y : Stored) → set_of l b ≡ false → s.object b ≡ Some y → IsStill s' b (length (fields y))
  pub new_above : (b : ℕ) (y : Stored) → set_of l b ≡ false → s'.object b ≡ Some y
      → IsSpaceObject s b ⊎ (b / l.words * l.words + s.used (b / l.words) ≤ b)
  pub closed : (k : ℕ) → IsDestination d k → d.last ≢ Some k
      → ((b : ℕ) (y : Stored) → b / l.words ≡ k → s'.object b ≡ Some y → IsSpaceObject s b) × (d'.last ≢ Some k)
  pub fields : (b : ℕ) (y y' : Stored) (i : ℕ) (w : Option ℕ) → set_of l b ≡ false → s.object b ≡ Some y
      → s'.object b ≡ Some y' → slice_get (fields y') i ≡ Some w
      → (slice_get (fields y) i ≡ Some w) ⊎ ((v : Option ℕ) × (slice_get (fields y) i ≡ Some v) × IsUpdated l noted' (field_word b i) v w)

abbrev pub IsFieldClean : Layout → Space → ℕ → ℕ → Type 0
IsFieldClean l s b i = (y : Stored) (w : Option ℕ) → s.object b ≡ Some y → slice_get (fields y) i ≡ Some w → IsOutsideSet l w

abbrev pub IsFieldSettled : Layout → Notes → Space → ℕ → ℕ → Type 0
IsFieldSettled l noted s b i =
    (y : Stored) (w : Option ℕ) → s.object b ≡ Some y → slice_get (fields y) i ≡ Some w → IsSettled l noted (field_word b i) w

abbrev pub IsObjectSettled : Layout → Notes → Space → ℕ → Type 0
IsObjectSettled l noted s b = (i : ℕ) → IsFieldSettled l noted s b i

-- each object of the region is settled
abbrev pub IsRegionSettled : Layout → Notes → Space → ℕ → Type 0
IsRegionSettled l noted s k = (b : ℕ) (y : Stored) → b / l.words ≡ k → s.object b ≡ Some y → IsObjectSettled l noted s b

-- a field of an object that stood outside the set at the start, in a card that is visited
pub record IsVisited (l : Layout) (p : Plan) (visited : List Bool) (b i : ℕ) : Type 0 where
  pub object : Stored
  pub at : p.heap.kept b ≡ Some object
  pub outside : set_of l b ≡ false
  pub within : i < length (fields object)
  pub card : flag visited (field_word b i / l.card_words) ≡ true

-- those of the cards below one are clean
abbrev pub AreClean : Layout → Plan → List Bool → Space → ℕ → Type 0
AreClean l p visited s card = (b i : ℕ) → IsVisited l p visited b i → field_word b i / l.card_words < card → IsFieldClean l s b i

-- a field outside the set that names the set lies in a card that is visited
abbrev pub AllVisited : Layout → Plan → List Bool → Type 0
AllVisited l p visited = (b i a : ℕ) (x : Stored) → p.heap.kept b ≡ Some x → set_of l b ≡ false → slice_get (fields x) i ≡ Some (Some a)
    → set_of l a ≡ true → flag visited (field_word b i / l.card_words) ≡ true

-- ---- roots
-- the word's target is where it is now
pub record IsNewWord (l : Layout) (s : Space) (w w' : Option ℕ) : Type 0 where
  pub moved : IsMoved (place_after (set_of l) s.forward) w w'
  pub outside : IsOutsideSet l w'

-- the roots up to here are updated
pub record AreRootsMoved (place : ℕ → Option ℕ) (before now : List (Option ℕ)) (i : ℕ) : Type 0 where
  pub moved : (j : ℕ) (w w' : Option ℕ) → j < i → slice_get before j ≡ Some w → slice_get now j ≡ Some w' → IsMoved place w w'
  pub same : (j : ℕ) → i ≤ j → slice_get now j ≡ slice_get before j
  pub count : length now ≡ length before

-- ---- one copy
-- copies go to the open destination, or to a free region where the object doesn't fit there
pub record GoesOn (l : Layout) (s s' : Space) (d d' : Destinations) (k : ℕ) : Type 0 where
  pub last : d.last ≡ Some k
  pub regions : d'.regions ≡ d.regions
  pub room : d'.room ≡ d.room
  pub free_count : s'.free_count ≡ s.free_count
  pub free : (j : ℕ) → s'.free j ≡ s.free j

pub record TakesNext (l : Layout) (s s' : Space) (d d' : Destinations) (k size : ℕ) : Type 0 where
  pub was_free : s.free k ≡ true
  pub empty : s.used k ≡ 0
  pub regions : d'.regions ≡ d.regions ++ k ∷ []
  pub room : d'.room + 1 ≡ d.room
  pub free_count : s'.free_count + 1 ≡ s.free_count
  pub taken : s'.free k ≡ false
  pub free : (j : ℕ) → j ≢ k → s'.free j ≡ s.free j
  pub full : (f : ℕ) → filled s d.last ≡ Some f → l.words < f + size

pub record CopiesTo (l : Layout) (s s' : Space) (d d' : Destinations) (from to : ℕ) (x : Stored) : Type 0 where
  pub region : ℕ
  pub last : d'.last ≡ Some region
  pub words : d'.words ≡ d.words + words_of x
  pub at_region : to / l.words ≡ region
  pub above : region * l.words + s.used region ≤ to
  pub room : s.object to ≡ None
  pub forwarded : s'.forward from ≡ Some to
  pub forward_others : (c : ℕ) → (c ≡ from → ⊥) → s'.forward c ≡ s.forward c
  pub copy : s'.object to ≡ Some x
  pub gone : s'.object from ≡ None
  pub others : (c : ℕ) → (c ≡ from → ⊥) → (c ≡ to → ⊥) → s'.object c ≡ s.object c
  pub used : s'.used region ≡ s.used region + words_of x
  pub used_same : (j : ℕ) → j ≢ region → s'.used j ≡ s.used j
  pub left : l.chosen region ≡ false → s'.left + words_of x ≡ s.left
  pub how : GoesOn l s s' d d' region ⊎ TakesNext l s s' d d' region (words_of x)

-- a field of the object is another one
pub record WritesField (s s' : Space) (a i : ℕ) (w : Option ℕ) (x : Stored) : Type 0 where
  pub object : s'.object a ≡ Some (with_field x i w)
  pub others : (c : ℕ) → (c ≡ a → ⊥) → s'.object c ≡ s.object c
  pub forward : (c : ℕ) → s'.forward c ≡ s.forward c
  pub used : (k : ℕ) → s'.used k ≡ s.used k
  pub free : (k : ℕ) → s'.free k ≡ s.free k
  pub free_count : s'.free_count ≡ s.free_count
  pub left : s'.left ≡ s.left
