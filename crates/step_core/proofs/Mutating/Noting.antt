-- A field's card is made dirty before a pointer is stored.
use Rattle.std.proofs.Common.{◌≡◌, ◌+◌, ◌*◌, ◌/◌, ◌<◌, ◌≤◌, ◌∙◌, ℕ, Bool, true, false, Option, Some, List, length, refl, sym, ap, subst}
use Rattle.std.proofs.Common.{arith, inl, ◌||◌, ◌==◌}
use Rattle.heap_model.specs.Heap.{Heap, Stored, IsRoot, IsHeld, IsShown}
use Rattle.regions.proofs.Words.FieldAccess.{count_fields}
use Rattle.regions.specs.Table.{Table, object_at, fields_at, pointers_at}
use Rattle.regions.specs.Tiles.{Object, tile_size}
use Rattle.regions.specs.Shaped.{IsShaped}
use Rattle.regions.proofs.Tiles.Laws.{object_tile}
use Rattle.cards.specs.Cards.{Cards, is_dirty, dirtied}
use Rattle.cards.proofs.Laws.{dirty_after}
use Rattle.heap_model.specs.Graph.{Graph}
use Rattle.std.proofs.lemmas.Grind.{common_steps}
use Rattle.std.proofs.lemmas.Bool.Decides.{nat_tests}
use Rattle.remembered_sets.specs.Sets.{may_lead}
use Rattle.refinement.proofs.Remembered as remembered
use Rattle.heap_words.specs.Configs.{card_words}
use Rattle.heap_words.proofs.Limits.{card_between}
use Rattle.std.proofs.Math.Nat.{mul_assoc, mul-div_cancel, div-lt_iff_lt-mul}
use Rattle.step_core.specs.Stands.{CoreState, kept_of, heap_of, ShowsGraph, KeepsFrom, IsCore, IsWordOf}
use Rattle.step_core.specs.Storing.{CanStore}
use Rattle.step_core.proofs.Mutating.Reading.{object_kept, fields_there}
use Rattle.step_core.proofs.Cores.Slots.{slots_same}
use Rattle.step_core.proofs.Cores.Resting.{core_stays}
use Rattle.step_core.proofs.Mutating.Storing.{rooted}

tile_of : (t : Table) (a : ℕ) (x : Stored) → IsShaped t → object_at t a ≡ Some x
    → a + tile_size (Object x) ≤ length t.regions * t.words_per_region
unfolding object_at
tile_of t a x shaped e = shaped.within a (Object x) (object_tile _ x e)

-- the word of a field lies in the heap: k is the core by its fields, c the same by its value
pub field_inside : (k c : CoreState) (a i : ℕ) → k ≡ c → IsCore k → IsShaped k.table → IsRoot (heap_of c) a
    → i < length (fields_at c.table a) → a + 2 + i < length k.table.regions * k.table.words_per_region
field_inside k c a i e core shaped root within =
    let r = rooted k a core (subst (λ (d : CoreState). IsRoot (heap_of d) a) (sym e) root) in
    let here : i < length (fields_at k.table a) = subst (λ (d : CoreState). i < length (fields_at d.table a)) (sym e) within in
    let is = object_kept k a r.stored r.at in
    let whole = tile_of k.table a r.stored shaped is in
    let count = ap (λ (ps : List (Option ℕ)). length ps) (fields_there k a r.stored r.at) ∙ count_fields r.stored in
    omega (arith, whole, count, here)

-- a card has a word
pub some_card : (k : CoreState) → IsCore k → 0 < card_words k.config
some_card k core = let least = (card_between k.config core.suits).0 in omega arith

-- a region has as many cards as its words have
pub cards_a_region : (k : CoreState) → IsCore k → k.config.words / card_words k.config ≡ k.sets.cards_per_region
cards_a_region k core =
    ap (λ (n : ℕ). n / card_words k.config) core.cards.whole_cards ∙ mul-div_cancel k.sets.cards_per_region (some_card k core)

below : (word n cards card : ℕ) → 0 < card → word < n * (cards * card) → word / card < n * cards
below word n cards card some lt = (div-lt_iff_lt-mul some).1 (subst (λ (m : ℕ). word < m) (sym (mul_assoc n cards card)) lt)

-- and its card is one of the cards
pub card_inside : (k : CoreState) (word : ℕ) → IsCore k → word < length k.table.regions * k.table.words_per_region
    → word / card_words k.config < length k.cards.dirty
card_inside k word core lt =
    let fit = core.cards in
    let card : ℕ = card_words k.config in
    let words : k.table.words_per_region ≡ k.sets.cards_per_region * card = core.layers.region_size ∙ fit.whole_cards in
    let regions : length k.table.regions ≡ length k.sets.sets = core.layers.region_count ∙ sym fit.each_region in
    let lt' : word < length k.sets.sets * (k.sets.cards_per_region * card) =
    subst (λ (n : ℕ). word < n * (k.sets.cards_per_region * card)) regions
    (subst (λ (w : ℕ). word < length k.table.regions * w) words lt) in
    subst (λ (n : ℕ). word / card < n) (sym fit.each_card)
    (below word (length k.sets.sets) k.sets.cards_per_region card (some_card k core) lt')

-- so is a field's
pub card_known : (k c : CoreState) (a i word card : ℕ) → k ≡ c → IsCore k → IsShaped k.table → IsRoot (heap_of c) a
    → i < length (fields_at c.table a) → word ≡ a + 2 + i → card ≡ word / card_words k.config → card < length k.cards.dirty
card_known k c a i word card e core shaped root within at is =
    let inside = field_inside k c a i e core shaped root within in
    subst (λ (n : ℕ). n < length k.cards.dirty) (sym is) (card_inside k word core (omega (arith, inside, at)))

or_right : (b d : Bool) → d ≡ true → (b || d) ≡ true
or_right true d e = refl
or_right false d e = e

same_card : (n : ℕ) (b : Bool) → ((n == n) || b) ≡ true
same_card n b = grind (arith, common_steps, nat_tests)

-- other cards change nothing of what is shown or kept
shows_with : (c : CoreState) (cs : Cards) (g : Graph) → ShowsGraph g c → ShowsGraph g (record c { cards = cs })
unfolding kept_of
shows_with c cs g s = record { room = s.room; places = s.places; next = s.next; shows = s.shows }

keeps_with : (c : CoreState) (cs : Cards) (s : Graph) → KeepsFrom s c → KeepsFrom s (record c { cards = cs })
unfolding kept_of
keeps_with c cs s f = record { earlier = f.earlier; marking = f.marking }

-- the core with another card dirty
module _ (k : CoreState) (core : IsCore k) (m card : ℕ) (cs : Cards)
    (known : card < length k.cards.dirty) (is : cs ≡ dirtied k.cards m card)
    (cards : length cs.dirty ≡ length k.cards.dirty) (mutators : length cs.logs ≡ length k.cards.logs) where
  stays : (other : ℕ) → is_dirty k.cards other ≡ true → is_dirty cs other ≡ true
  stays other d =
      ap (λ (x : Cards). is_dirty x other) is ∙ dirty_after k.cards m card other known ∙ or_right (other == card) (is_dirty k.cards other) d

  pub now_dirty : is_dirty cs card ≡ true
  now_dirty = ap (λ (x : Cards). is_dirty x card) is ∙ dirty_after k.cards m card card known ∙ same_card card (is_dirty k.cards card)

  pub dirtied_kept : IsCore (record k { cards = cs })
  unfolding kept_of
  dirtied_kept = core_stays k core k.table k.buffers k.marker cs k.sets k.roots refl core.layers (record {
    whole_cards = core.cards.whole_cards;
    each_region = core.cards.each_region;
    each_card = cards ∙ core.cards.each_card;
    each_mutator = mutators ∙ core.cards.each_mutator;
  }) (remembered.remembers_on k.table.words_per_region (card_words k.config) (kept_of k) (kept_of k) (is_dirty k.cards)
      (is_dirty cs) (may_lead k.sets) (may_lead k.sets) (λ a i v x. inl x) stays (λ a i v c x e. e) core.remembers)
      (slots_same k (record k { cards = cs }) core.slots refl (λ a. refl) (λ b h. h))
      (shows_with k cs) (keeps_with k cs)

-- the core with other cards shows and keeps the same
pub heap_noted : (c c' : CoreState) → c' ≡ record c { cards = c'.cards } → heap_of c' ≡ heap_of c
unfolding kept_of
heap_noted c c' e = ap (λ (d : CoreState). heap_of d) e

held_noted : (c c' : CoreState) (w : Option ℕ) → c' ≡ record c { cards = c'.cards } → IsHeld (heap_of c) w → IsHeld (heap_of c') w
held_noted c c' w e h = subst (λ (x : Heap). IsHeld x w) (sym (heap_noted c c' e)) h

pub word_noted : (c c' : CoreState) (w : Option ℕ) → c' ≡ record c { cards = c'.cards } → IsWordOf (heap_of c) w → IsWordOf (heap_of c') w
word_noted c c' w e h = subst (λ (x : Heap). IsWordOf x w) (sym (heap_noted c c' e)) h

pub kept_noted : (c c' : CoreState) (a : ℕ) → c' ≡ record c { cards = c'.cards } → kept_of c' a ≡ kept_of c a
kept_noted c c' a e = ap (λ (x : Heap). x.kept a) (heap_noted c c' e)

pub shown_noted : (c c' : CoreState) (w v : Option ℕ) → c' ≡ record c { cards = c'.cards }
    → IsShown (heap_of c) w v → IsShown (heap_of c') w v
shown_noted c c' w v e h = subst (λ (x : Heap). IsShown x w v) (sym (heap_noted c c' e)) h

pub shows_noted : (c c' : CoreState) (g : Graph) → c' ≡ record c { cards = c'.cards } → ShowsGraph g c → ShowsGraph g c'
shows_noted c c' g e s = subst (λ (d : CoreState). ShowsGraph g d) (sym e) (shows_with c c'.cards g s)

pub keeps_noted : (c c' : CoreState) (s : Graph) → c' ≡ record c { cards = c'.cards } → KeepsFrom s c → KeepsFrom s c'
keeps_noted c c' s e f = subst (λ (d : CoreState). KeepsFrom s d) (sym e) (keeps_with c c'.cards s f)

pub can_noted : (c c' : CoreState) (a i : ℕ) (w : Option ℕ) → c' ≡ record c { cards = c'.cards } → CanStore a i w c → CanStore a i w c'
can_noted c c' a i w e can = record {
  rooted = subst (λ (x : Heap). IsRoot x a) (sym (heap_noted c c' e)) can.rooted;
  field = subst (λ (d : CoreState). i < length (pointers_at d.table a)) (sym e) can.field;
  held = held_noted c c' w e can.held;
}
