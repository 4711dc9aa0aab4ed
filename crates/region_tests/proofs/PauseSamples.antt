-- The heaps that the tests evacuate.
use Rattle.regions.proofs.Common.{◌≡◌, ◌∙◌, ◌-◌, ◌*◌, ◌/◌, ◌%◌, ◌<◌, ◌≤◌, ◌⊎◌, ◌∷◌, ℕ, zero, suc, Bool, true, false, List, [], Option, Some}
use Rattle.regions.proofs.Common.{None, length, get_or, refl, sym, ap, subst, inl, inr, arith, All, slice_get, nat_le, if◌then◌else◌}
use Rattle.regions.proofs.Common.{length-replicate, Stored, fields, Object, tile_size, tile_at, Table, Free, Ordinary, HasNoForwarded}
use Rattle.regions.proofs.Common.{free_count, kind_of, object_at, region_at, nth_region, region_tile, tile_in, tile_object, used_of}
use Rattle.regions.specs.Table.{AreHalves}
use Rattle.regions.specs.declared.row.Kind.TheVariants as kinds
use Rattle.mark_bitmap.specs.Tops.{bottoms, is_below}
use Rattle.mark_bitmap.specs.Live.{live_bound_of}
use Rattle.mark_bitmap.proofs.ObjectLaws.{none_marked}
use Rattle.region_tests.proofs.FreshMarks.{fresh_objects}
use Rattle.mark_bitmap.specs.Marks.{is_marked}
use Rattle.cards.specs.Cards.{Cards, is_dirty}
use Rattle.remembered_sets.specs.Sets.{Sets, added, card_count, may_lead, empty_set, empty_sets}
use Rattle.region_choice.specs.Choice.{live_sum}
use Rattle.region_choice.specs.declared.LiveRow.{LiveRow}
use Rattle.refinement.specs.Remembering.{Remembers, field_card}
use Rattle.refinement.proofs.Holders.{kept_object}
use Rattle.evacuation.specs.Evacuates.{Layers, CanEvacuate, IsLiveRow, kept_of}
use Rattle.region_tests.specs.Evacuated.{IsFresh, by_weak_slot, held, holder, itself, selfish, two_cards, IsSuited}

the_row : (row : LiveRow) (P : LiveRow → Type 0) → P row → All P (row ∷ [])
the_row row P p = go
  where
    go : (k : ℕ) (d : LiveRow) → k < 1 → P (get_or (row ∷ []) k d)
    go zero d lt = p
    go (suc k) d lt = absurd (omega (arith, lt))

single : (row : LiveRow) (i j : ℕ) (r o : LiveRow) → slice_get (row ∷ []) i ≡ Some r → slice_get (row ∷ []) j ≡ Some o → i ≡ j
single row zero zero r o e f = refl
single row _ _ r o e f = absurd cc

the_root : (j a : ℕ) → slice_get (Some 0 ∷ []) j ≡ Some (Some a) → 0 ≡ a
the_root zero a e = cc
the_root (suc j) a e = absurd cc

module _ (t : Table) (s : Sets) (row : LiveRow) (u : IsSuited t s row) (h : Layers) (f : IsFresh t s h) where
  words : h.table.words_per_region ≡ 16
  words = ap (λ (v : Table). v.words_per_region) f.table_is ∙ u.words

  count : length h.table.regions ≡ 4
  count = ap (λ (v : Table). length v.regions) f.table_is ∙ u.count

  below : (a : ℕ) (x : Stored) → object_at t a ≡ Some x → is_below h.table.words_per_region h.tams.previous a ≡ false
  below a x e = ap (λ (n : ℕ). is_below n h.tams.previous a) words ∙ ap (λ (l : List ℕ). is_below 16 l a) f.previous_tops ∙ u.low a x e

  here : (a : ℕ) (x : Stored) → object_at t a ≡ Some x → kept_of h a ≡ Some x
  here a x e = ap (λ (b : Bool).
      if b then (if is_marked h.previous a then object_at h.table a else None) else object_at h.table a) (below a x e)
      ∙ ap (λ (v : Table). object_at v a) f.table_is ∙ e

  there : (a : ℕ) (y : Stored) → kept_of h a ≡ Some y → object_at t a ≡ Some y
  there a y e = ap (λ (v : Table). object_at v a) (sym f.table_is) ∙ kept_object h.table h.tams h.previous a y e

  kept_there : (a : ℕ) → ((x : Stored) × (object_at t a ≡ Some x)) → (x : Stored) × (kept_of h a ≡ Some x)
  kept_there a k = let (x, e) = k in (x, here a x e)

  pub can_evacuate : CanEvacuate h (row ∷ []) 8
  can_evacuate = record {
    unmoved = subst HasNoForwarded (sym f.table_is) u.unmoved;
    previous = fresh_objects h.table 4 16 h.tams.previous h.previous (sym count) (sym words) f.previous_tops f.previous;
    next = fresh_objects h.table 4 16 h.tams.next h.next (sym count) (sym words) f.next_tops f.next;
    closed = record {
      root = λ j a e.
          let same = the_root j a (ap (λ (l : List (Option ℕ)). slice_get l j) (sym f.roots) ∙ e) in
          subst (λ (n : ℕ). (x : Stored) × (kept_of h n ≡ Some x)) same (kept_there 0 u.first);
      field = λ b i a y k e. kept_there a (u.inside b i a y (there b y k) e);
    };
    halves = subst AreHalves (sym f.table_is) (λ a x e o. let k = u.halves a x e in let w = u.words in omega arith);
    fit = record {
      whole_cards = words ∙ sym (ap (λ (v : Sets). v.cards_per_region * 8) f.sets_are ∙ ap (λ (n : ℕ). n * 8) u.cards);
      each_region = ap (λ (v : Sets). length v.sets) f.sets_are ∙ u.each ∙ sym count;
    };
    each_card = ap (λ (c : Cards). length c.dirty) f.cards ∙ length-replicate 8 false
        ∙ sym (ap card_count f.sets_are ∙ (let c = u.cards in let e = u.each in rw (c, e) refl));
    clean = λ card. ap (λ (c : Cards). is_dirty c card) f.cards ∙ none_marked 8 card;
    remembers = subst (λ (n : ℕ). Remembers n (kept_of h) 8 (is_dirty h.cards) (may_lead h.sets)) (sym words) (record {
      each = λ a i b x. elim (u.remembered a i b x.object (there a x.object x.kept_is) x.field_is) [
        | inl same ↦ absurd (x.leaves same)
        | inr c ↦ inr (ap (λ (v : Sets). may_lead v (b / 16) (field_card 8 a i)) f.sets_are ∙ c)
      ];
    });
    each_row = the_row row (IsLiveRow h) (record {
      known = let c = count in let k = u.known in omega arith;
      ordinary = ap (λ (v : Table). kind_of v row.region) f.table_is ∙ u.ordinary;
      live_bound = u.bound h.previous ∙ ap (λ (l : List ℕ). live_bound_of t l h.previous row.region) (sym f.previous_tops)
          ∙ ap (λ (v : Table). live_bound_of v h.tams.previous h.previous row.region) (sym f.table_is);
    });
    distinct = λ i j r o e g q. single row i j r o e g;
    room = subst (λ (v : Table). 2 * live_sum (row ∷ []) ≤ free_count v * v.words_per_region) (sym f.table_is) u.room;
  }

-- ---- an object alone in a region
tile_alone : (x : Stored) (o : ℕ) (y : Stored) → tile_object (tile_at o (Object x ∷ [])) ≡ Some y → (o ≡ 0) × (x ≡ y)
tile_alone x zero y e = (refl, cc)
tile_alone x (suc o) y e = absurd (behind (nat_le (tile_size (Object x)) (suc o)) e)
  where
    behind : (b : Bool) → tile_object (if b then tile_at (suc o - tile_size (Object x)) [] else None) ≡ Some y → ⊥
    behind true f = cc
    behind false f = cc

-- ---- the object that names itself
itself_at : (q o : ℕ) (y : Stored)
    → tile_object (region_tile (get_or (Ordinary (Object selfish ∷ []) ∷ Free ∷ Free ∷ Free ∷ []) q Free) o) ≡ Some y
    → (q ≡ 0) × (o ≡ 0) × (selfish ≡ y)
itself_at zero o y e = let (n, s) = tile_alone selfish o y e in (refl, n, s)
itself_at (suc zero) o y e = absurd cc
itself_at (suc (suc zero)) o y e = absurd cc
itself_at (suc (suc (suc zero))) o y e = absurd cc
itself_at (suc (suc (suc (suc q)))) o y e = absurd cc

itself_only : (a : ℕ) (y : Stored) → object_at itself a ≡ Some y → (a ≡ 0) × (selfish ≡ y)
unfolding object_at tile_in region_at
itself_only a y e = let (q, o, same) = itself_at (a / 16) (a % 16) y e in (omega (arith, q, o), same)

itself_first : object_at itself 0 ≡ Some selfish
unfolding object_at tile_in region_at
itself_first = refl

its_target : (i a : ℕ) → slice_get (fields selfish) i ≡ Some (Some a) → (i < 2) × (0 ≡ a)
its_target (suc (suc i)) a e = absurd cc
its_target _ a e = (omega arith, cc)

below_none : is_below 16 (bottoms 4 16) 0 ≡ false
unfolding is_below
below_none = refl

itself_bound : (marks : List Bool) → 4 ≡ live_bound_of itself (bottoms 4 16) marks 0
unfolding live_bound_of used_of nth_region
itself_bound marks = refl

itself_ordinary : kind_of itself 0 ≡ kinds.Ordinary
unfolding kind_of nth_region
itself_ordinary = refl

pub itself_suited : IsSuited itself (empty_sets 4 2 0) (record { region = 0; live_bound = 4 })
itself_suited = record {
  words = refl;
  count = refl;
  cards = refl;
  each = length-replicate 4 (empty_set 4 2 0);
  unmoved = (tt, tt);
  first = (selfish, itself_first);
  low = λ a x e. let (z, s) = itself_only a x e in subst (λ (n : ℕ). is_below 16 (bottoms 4 16) n ≡ false) (sym z) below_none;
  inside = λ b i a y k e.
      let (z, s) = itself_only b y k in
      let (j, same) = its_target i a (ap (λ (x : Stored). slice_get (fields x) i) s ∙ e) in
      (selfish, subst (λ (n : ℕ). object_at itself n ≡ Some selfish) same itself_first);
  halves = λ a x e. let (z, s) = itself_only a x e in subst (λ (y : Stored). 2 * tile_size (Object y) ≤ 16) s (omega arith);
  remembered = λ a i b y k e.
      let (z, s) = itself_only a y k in
      let (j, same) = its_target i b (ap (λ (x : Stored). slice_get (fields x) i) s ∙ e) in
      inl (omega (arith, z, j, same));
  known = omega arith;
  ordinary = itself_ordinary;
  bound = itself_bound;
  room = omega arith;
}

-- ---- the object that a weak slot alone names
weak_at : (q o : ℕ) (y : Stored) → tile_object (region_tile (get_or (Ordinary (Object (holder (Some 16)) ∷ [])
    ∷ Ordinary (Object held ∷ []) ∷ Free ∷ Free ∷ []) q Free) o) ≡ Some y
    → ((q ≡ 0) × (o ≡ 0) × (holder (Some 16) ≡ y)) ⊎ ((q ≡ 1) × (o ≡ 0) × (held ≡ y))
weak_at zero o y e = let (n, s) = tile_alone (holder (Some 16)) o y e in inl (refl, n, s)
weak_at (suc zero) o y e = let (n, s) = tile_alone held o y e in inr (refl, n, s)
weak_at (suc (suc zero)) o y e = absurd cc
weak_at (suc (suc (suc zero))) o y e = absurd cc
weak_at (suc (suc (suc (suc q)))) o y e = absurd cc

weak_only : (a : ℕ) (y : Stored) → object_at by_weak_slot a ≡ Some y → ((a ≡ 0) × (holder (Some 16) ≡ y)) ⊎ ((a ≡ 16) × (held ≡ y))
unfolding object_at tile_in region_at
weak_only a y e = elim (weak_at (a / 16) (a % 16) y e) [
  | inl k ↦ inl (omega (arith, k.0, k.1), k.2)
  | inr k ↦ inr (omega (arith, k.0, k.1), k.2)
]

weak_holder : object_at by_weak_slot 0 ≡ Some (holder (Some 16))
unfolding object_at tile_in region_at
weak_holder = refl

weak_held : object_at by_weak_slot 16 ≡ Some held
unfolding object_at tile_in region_at
weak_held = refl

below_second : is_below 16 (bottoms 4 16) 16 ≡ false
unfolding is_below
below_second = refl

weak_target : (i a : ℕ) → slice_get (fields (holder (Some 16))) i ≡ Some (Some a) → (i ≡ 0) × (16 ≡ a)
weak_target zero a e = (refl, cc)
weak_target (suc i) a e = absurd cc

no_target : (i a : ℕ) → slice_get (fields held) i ≡ Some (Some a) → ⊥
no_target zero a e = cc
no_target (suc i) a e = cc

-- the object that has a field, and what it names
weak_field : (b i a : ℕ) (y : Stored) → object_at by_weak_slot b ≡ Some y
    → slice_get (fields y) i ≡ Some (Some a) → (b ≡ 0) × (i ≡ 0) × (16 ≡ a)
weak_field b i a y k e = elim (weak_only b y k) [
  | inl h ↦ (let (j, same) = weak_target i a (ap (λ (x : Stored). slice_get (fields x) i) h.1 ∙ e) in (h.0, j, same))
  | inr h ↦ absurd (no_target i a (ap (λ (x : Stored). slice_get (fields x) i) h.1 ∙ e))
]

weak_bound : (marks : List Bool) → 2 ≡ live_bound_of by_weak_slot (bottoms 4 16) marks 1
unfolding live_bound_of used_of nth_region
weak_bound marks = refl

weak_ordinary : kind_of by_weak_slot 1 ≡ kinds.Ordinary
unfolding kind_of nth_region
weak_ordinary = refl

pub are_two_cards : (s s' s'' : Sets) (k a b : ℕ) → s ≡ empty_sets 4 2 0 → s' ≡ added s k a → s'' ≡ added s' k b → k ≡ 1 → a ≡ 0 → b ≡ 4
    → s'' ≡ two_cards
are_two_cards s s' s'' k a b e f g p q r = rw (g, f, e, p, q, r) refl

covered : (a i b : ℕ) → (a ≡ 0) × (i ≡ 0) × (16 ≡ b) → may_lead two_cards (b / 16) (field_card 8 a i) ≡ true
covered a i b k = subst (λ (n : ℕ). may_lead two_cards (n / 16) (field_card 8 a i) ≡ true) k.2 (rw (k.0, k.1) refl)

pub weak_suited : IsSuited by_weak_slot two_cards (record { region = 1; live_bound = 2 })
weak_suited = record {
  words = refl;
  count = refl;
  cards = refl;
  each = refl;
  unmoved = (tt, (tt, tt));
  first = (holder (Some 16), weak_holder);
  low = λ a x e. elim (weak_only a x e) [
    | inl k ↦ subst (λ (n : ℕ). is_below 16 (bottoms 4 16) n ≡ false) (sym k.0) below_none
    | inr k ↦ subst (λ (n : ℕ). is_below 16 (bottoms 4 16) n ≡ false) (sym k.0) below_second
  ];
  inside = λ b i a y k e. let h = weak_field b i a y k e in (held, subst (λ (n : ℕ). object_at by_weak_slot n ≡ Some held) h.2 weak_held);
  halves = λ a x e. elim (weak_only a x e) [
    | inl k ↦ subst (λ (y : Stored). 2 * tile_size (Object y) ≤ 16) k.1 (omega arith)
    | inr k ↦ subst (λ (y : Stored). 2 * tile_size (Object y) ≤ 16) k.1 (omega arith)
  ];
  remembered = λ a i b y k e. inr (covered a i b (weak_field a i b y k e));
  known = omega arith;
  ordinary = weak_ordinary;
  bound = weak_bound;
  room = omega arith;
}
