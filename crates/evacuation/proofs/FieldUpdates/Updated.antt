-- A field of an object outside the set is updated.
use Rattle.std.proofs.Common.{◌≡◌, ◌⊎◌, ◌∙◌, ℕ, Bool, true, false, List, Option, Some, None, length, refl, sym, ap, subst, inl, inr, arith}
use Rattle.std.proofs.Common.{slice_get, slice_set}
use Rattle.std.proofs.lemmas.Bool.{cases_eq}
use Rattle.std.proofs.lemmas.List.{length-set}
use Rattle.heap_model.specs.Heap.{Heap, Stored, IsClosed, ObjectSet, fields, with_field}
use Rattle.heap_model.specs.Evacuation.{IsReached, ByRootWord, ByOutside, ByInside}
use Rattle.heap_model.proofs.Fields.{IsFieldSet, field_set}
use Rattle.heap_model.proofs.Lists.{get-set_same, get-set_other}
use Rattle.heap_model.proofs.Evacuated.{field_reached, field_updated}
use Rattle.object_copy.specs.Copies.{Destinations}
use Rattle.refinement.specs.Remembering.{field_word}
use Rattle.evacuation.specs.Space.{Layout, Plan, Space, WritesField, IsPlan, IsCopying, IsNamed, IsAfter, IsSpaceObject, IsSettled}
use Rattle.evacuation.specs.Space.{IsOfWord, IsUpdated, IsFieldSettled, NewCrossing, NotesWord, filled, set_of, seen_as}
use Rattle.evacuation.specs.declared.room.Notes.{Notes}
use Rattle.evacuation.proofs.Notes.{for_others}
use Rattle.evacuation.proofs.Copies.ObjectCopied.{same_evacuating, same_tally}

-- what is reached stands there
pub reached_kept : (set : ℕ → Bool) (h : Heap) → IsClosed h → (a : ℕ) → IsReached set h a → (x : Stored) × (h.kept a ≡ Some x)
reached_kept set h c a (ByRootWord b r i) = c.root r.place b r.is
reached_kept set h c a (ByOutside b d o p i) = c.field b p.field d p.object p.at p.is
reached_kept set h c a (ByInside b d o p i) = c.field b p.field d p.object p.at p.is

module _ (l : Layout) (p : Plan) (s : Space) (d : Destinations) (q : IsPlan l p) (c : IsCopying l p s d)
    (at i a : ℕ) (y : Stored) (out : set_of l at ≡ false) (here : s.object at ≡ Some y)
    (names : slice_get (fields y) i ≡ Some (Some a)) (inside : set_of l a ≡ true) where
  pub field_named : IsNamed l p a
  field_named =
      let r = field_reached (set_of l) p.heap s.forward (seen_as s p.heap) c.heap at i a y here out names inside in
      let (x, k) = reached_kept (set_of l) p.heap q.closed a r in
      record { object = x; at = k; inside = inside; reached = r }

module _ (l : Layout) (p : Plan) (s s' : Space) (d : Destinations) (c : IsCopying l p s d)
    (at i a b : ℕ) (y : Stored) (out : set_of l at ≡ false) (here : s.object at ≡ Some y)
    (names : slice_get (fields y) i ≡ Some (Some a)) (inside : set_of l a ≡ true)
    (f : s.forward a ≡ Some b) (u : WritesField s s' at i (Some b) y) where
  abbrev updated : Stored
  updated = with_field y i (Some b)

  is_set : IsFieldSet y updated i (Some b)
  is_set = field_set y i (Some b)

  change : ObjectSet (seen_as s p.heap) (seen_as s' p.heap) at y updated
  change = record { was = here; is = u.object; name = is_set.name; others = u.others; roots = refl }

  -- the fields of the object that is there now
  set_at : (j : ℕ) (w : Option ℕ) → slice_get (fields updated) j ≡ Some w → slice_get (slice_set (fields y) i (Some b)) j ≡ Some w
  set_at j w e = ap (λ (ws : List (Option ℕ)). slice_get ws j) (sym is_set.fields_are) ∙ e

  filled_same : (w : Option ℕ) → filled s' w ≡ filled s w
  filled_same None = refl
  filled_same (Some k) = ap Some (u.used k)

  pub updated_copying : IsCopying l p s' d
  updated_copying = record {
    heap = same_evacuating (set_of l) p.heap s.forward s'.forward p.heap.roots s'.object s'.object (λ x. sym (u.forward x)) (λ x. refl)
        (field_updated (set_of l) p.heap s.forward (seen_as s p.heap) c.heap (seen_as s' p.heap) at i a b y updated out names inside f
        change is_set.values is_set.shape is_set.slots is_set.fields_are);
    free = λ k e. c.free k (sym (u.free k) ∙ e);
    taken = c.taken;
    last = c.last;
    last_at = c.last_at;
    apart = λ k w. u.free k ∙ c.apart k w;
    placed = λ x z e g. c.placed x z e (sym (u.forward x) ∙ g);
    room = rw (u.free_count, u.left, filled_same d.last) c.room;
    list = let e = u.free_count in let k = c.list in omega arith;
    limit = let e = u.left in let k = c.limit in omega arith;
    tally = same_tally (set_of l) p.heap s.forward s'.forward d.words d.words (λ x. sym (u.forward x)) refl c.tally;
    places = c.places;
    frees = let e = u.free_count in let k = c.frees in omega arith;
    spared = rw (filled_same d.last) c.spared;
  }

  new_outside : set_of l b ≡ false
  new_outside = c.heap.out a b inside f

  module _ (t t' : Notes) (notes : NotesWord l t t' (field_word at i) b) where
    word_settled : (w : Option ℕ) → w ≡ Some b → IsSettled l t' (field_word at i) w
    word_settled None e = cc
    word_settled (Some x) e =
        let k : b ≡ x = cc in
        subst (λ (m : ℕ). IsSettled l t' (field_word at i) (Some m)) k (new_outside, notes.is_noted)

    place_cases : (j : ℕ) (w : Option ℕ) → slice_get (slice_set (fields y) i (Some b)) j ≡ Some w
        → ((i ≡ j) × (w ≡ Some b)) ⊎ (slice_get (fields y) j ≡ Some w)
    place_cases j w e = elim (cases_eq i j) [
      | inl k ↦ inl (
        k,
        (let g = get-set_same (fields y) i (Some b) (Some a) names in
            let e' = subst (λ (m : ℕ). slice_get (slice_set (fields y) i (Some b)) m ≡ Some w) (sym k) e in
            cc),
      )
      | inr n ↦ inr (sym (get-set_other (fields y) i j (Some b) n) ∙ e)
    ]

    pub updated_settled : IsFieldSettled l t' s' at i
    updated_settled z w e g =
        let o = u.object in
        let k : updated ≡ z = cc in
        let g' = set_at i w (subst (λ (m : Stored). slice_get (fields m) i ≡ Some w) (sym k) g) in
        let h = get-set_same (fields y) i (Some b) (Some a) names in
        word_settled w cc

    is_updated : (j : ℕ) (w : Option ℕ) → i ≡ j → w ≡ Some b → IsUpdated l t' (field_word at j) (Some a) w
    is_updated j w k e = record {
      target = a;
      named = refl;
      inside = inside;
      settled = subst (λ (m : ℕ). IsSettled l t' (field_word at m) w) k (word_settled w e);
    }

    pub updated_after : IsAfter l t t' s s' d d
    updated_after = record {
      noted_grows = notes.grows;
      noted_for = for_others (IsOfWord l (field_word at i) b) (NewCrossing l s s' d) t t' (λ c k o. record {
        at = at;
        index = i;
        target = b;
        object = updated;
        here = u.object;
        outside = out;
        field = ap (λ (ws : List (Option ℕ)). slice_get ws i) is_set.fields_are ∙ get-set_same (fields y) i (Some b) (Some a) names;
        clean = new_outside;
        in_card = sym o.card_is;
        into = sym o.region_is;
        leaves = o.leaves;
        is_new = inr (λ z f. (a, (let k : y ≡ z = cc in subst (λ (m : Stored). slice_get (fields m) i ≡ Some (Some a)) k names), inside));
      }) notes.only;
      forward_grows = λ x z e. u.forward x ∙ e;
      taken_grows = λ j k e. e;
      used_grows = λ k. let e = u.used k in omega arith;
      stays = λ x z o e. elim (cases_eq x at) [
        | inl k ↦ (
          updated,
          ap s'.object k ∙ u.object,
          ap (λ (ws : List (Option ℕ)). length ws) is_set.fields_are ∙ length-set (fields y) i (Some b)
              ∙ ap (λ (m : Stored). length (fields m)) (let e1 = ap s.object k in let r : y ≡ z = cc in r),
        )
        | inr n ↦ (z, u.others x n ∙ e, refl)
      ];
      new_above = λ x z o e. inl (was x z e);
      closed = λ j w m. (λ x z r e. was x z e, m);
      fields = λ x z z' j w o e e' g. elim (cases_eq x at) [
        | inl k ↦
            let k1 : z ≡ y = let e1 = ap s.object k in cc in
            let k2 : z' ≡ updated = let e1 = ap s'.object k in let e2 = u.object in cc in
            let g' = set_at j w (subst (λ (m : Stored). slice_get (fields m) j ≡ Some w) k2 g) in
            elim (place_cases j w g') [
              | inl v ↦ inr (
                Some a,
                subst (λ (m : Stored). slice_get (fields m) j ≡ Some (Some a)) (sym k1)
                    (subst (λ (m : ℕ). slice_get (fields y) m ≡ Some (Some a)) v.0 names),
                subst (λ (m : ℕ). IsUpdated l t' (field_word m j) (Some a) w) (sym k) (is_updated j w v.0 v.1),
              )
              | inr v ↦ inl (subst (λ (m : Stored). slice_get (fields m) j ≡ Some w) (sym k1) v)
            ]
        | inr n ↦ inl (let e1 = u.others x n in let k1 : z' ≡ z = cc in subst (λ (m : Stored). slice_get (fields m) j ≡ Some w) k1 g)
      ];
    }
      where
        was : (x : ℕ) (z : Stored) → s'.object x ≡ Some z → IsSpaceObject s x
        was x z e = elim (cases_eq x at) [ inl k ↦ (y, ap s.object k ∙ here) | inr n ↦ (z, sym (u.others x n) ∙ e) ]
