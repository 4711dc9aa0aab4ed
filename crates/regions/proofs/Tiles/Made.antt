-- An object with nil fields is made in a filler that was pushed at a region's top: so tests build their tables.
use Rattle.regions.proofs.Common.{get_or_from_slice_get, get_or-replicate, length-replicate, slice_get_within, replace_tile, tile_object, ℕ}
use Rattle.regions.proofs.Common.{new_object, replicate, slice_get, tile_size, object_at, push_tile, remainder, cases_lt, cases_eq, tile_in}
use Rattle.regions.proofs.Common.{IsShaped, IsHolder, used_of, kind_of, Option, length, get_or, IsSome, Stored, fields, Object, Filler, ◌≡◌}
use Rattle.regions.proofs.Common.{top_of, subst, arith, Table, Some, None, refl, ◌≢◌, ◌+◌, ◌-◌, ◌<◌, ◌≤◌, ◌∷◌, ◌++◌, ◌∙◌, sym, inl, inr}
use Rattle.regions.proofs.Common.{[], ap}
use Rattle.heap_model.proofs.Lists.{get-append_cases}
use Rattle.regions.proofs.Tiles.Placing.{Pushed, filler_push, Replaces, filler_replaced, tile_at-alone}
use Rattle.regions.specs.declared.row.Kind.TheVariants as kinds

nil_alone : (n i b : ℕ) → slice_get (replicate n None) i ≡ Some (Some b) → ⊥
nil_alone n i b e =
    let inside : i < n =
    let h = slice_get_within (replicate n None) i (Some b) e in
    omega (arith, h, length-replicate {A = Option ℕ} n None) in
    let read : get_or (replicate n None) i None ≡ Some b = get_or_from_slice_get (replicate n None) i (Some b) None e in
    let none : get_or (replicate n None) i None ≡ None = get_or-replicate {A = Option ℕ} n i None None inside in
    cc

pub nil_fields : (name n weak i b : ℕ) → slice_get (fields (new_object name n weak 0)) i ≡ Some (Some b) → ⊥
nil_fields name n weak i b e = elim (get-append_cases (replicate n None) (replicate weak None ++ []) i (Some b) e) [
  | inl q ↦ nil_alone n i b q
  | inr q ↦ elim (get-append_cases (replicate weak None) [] q.0 (Some b) q.1) [ inl r ↦ nil_alone weak q.0 b r | inr r ↦ cc ]
]

-- an object is at a, where none was, and the other objects are where they were
pub record IsMade (t t' : Table) (a : ℕ) (object : Stored) : Type 0 where
  pub size : t'.words_per_region ≡ t.words_per_region
  pub count : length t'.regions ≡ length t.regions
  pub is : object_at t' a ≡ Some object
  pub was : object_at t a ≡ None
  pub others : (y : ℕ) → y ≢ a → object_at t' y ≡ object_at t y
  pub used : (j : ℕ) → used_of t j ≤ used_of t' j

module _ (t t' t'' : Table) (k a n p weak name : ℕ) (shape : IsShaped t) (shape' : IsShaped t') (known : k < length t.regions)
    (ordinary : kind_of t k ≡ kinds.Ordinary) (room : used_of t k + n ≤ t.words_per_region) (size : n ≡ 2 + p + weak)
    (at : a ≡ top_of t k) (e : t' ≡ push_tile t k (Filler n))
    (e' : t'' ≡ replace_tile t' a (Object (new_object name p weak 0) ∷ remainder (n - (2 + p + weak + 0)))) where
  abbrev new : Stored
  new = new_object name p weak 0

  push : Pushed t t' k a (Filler n)
  push = rw (e, at) (filler_push t k (Filler n) shape.positive shape.fitting known ordinary (omega (arith, size)) room tt)

  whole : n - (2 + p + weak + 0) ≡ 0
  whole = omega (arith, size)

  words : tile_size (Object new) ≡ n
  words = omega (arith, size, length-replicate {A = Option ℕ} p None, length-replicate {A = Option ℕ} weak None)

  replaced : Replaces t' t'' a n (Object new ∷ [])
  replaced =
      let e2 : t'' ≡ replace_tile t' a (Object new ∷ []) = e' ∙ ap (λ (m : ℕ). replace_tile t' a (Object new ∷ remainder m)) whole in
      subst (λ (u : Table). Replaces t' u a n (Object new ∷ [])) (sym e2)
      (filler_replaced t' a n (Object new ∷ []) shape'.positive shape'.fitting push.is (omega (arith, size))
      (omega (arith, words), tt) (omega (arith, words)) tt)

  here : tile_in t'' a ≡ Some (Object new)
  here = let z : a + 0 ≡ a = omega arith in ap (tile_in t'') (sym z) ∙ replaced.within 0 (omega (arith, size))

  middle : (y : ℕ) → y ≢ a → tile_in t'' y ≡ tile_in t' y
  middle y apart = elim (cases_lt y a) [
    | inl low ↦ replaced.others y (inl low)
    | inr high ↦ elim (cases_lt y (a + n)) [
      | inl inside ↦
          let j : ℕ = y - a in
          let y_is : a + j ≡ y = omega (arith, high) in
          ap (tile_in t'') (sym y_is) ∙ replaced.within j (omega (arith, high, inside))
          ∙ tile_at-alone (Object new) j (omega (arith, high, apart))
          ∙ sym (replaced.inside j (omega (arith, high, apart)) (omega (arith, high, inside))) ∙ ap (tile_in t') y_is
      | inr past ↦ replaced.others y (inr past)
    ]
  ]

  pub object_made : IsMade t t'' a (new_object name p weak 0)
  unfolding object_at
  object_made = record {
    size = replaced.size ∙ push.size;
    count = replaced.count ∙ push.count;
    is = ap tile_object here;
    was = ap tile_object push.was;
    others = λ y apart. ap tile_object (middle y apart ∙ push.others y apart);
    used = λ j. elim (cases_eq j k) [
      | inl same ↦
          let used = push.used in
          let now = ap (used_of t') same in
          let was = ap (used_of t) same in
          omega (arith, used, now, was, replaced.used j)
      | inr apart ↦ omega (arith, push.used_others j apart, replaced.used j)
    ];
  }

pub add_there : (t t' : Table) (k a n : ℕ) → IsShaped t → k < length t.regions → kind_of t k ≡ kinds.Ordinary
    → used_of t k + n ≤ t.words_per_region → 0 < n → a ≡ top_of t k
    → t' ≡ push_tile t k (Filler n) → tile_in t' a ≡ Some (Filler n)
add_there t t' k a n shape known ordinary room z at e =
    rw (e, at) (filler_push t k (Filler n) shape.positive shape.fitting known ordinary z room tt).is

pub tile_some : (t : Table) (a w : ℕ) → IsHolder t a w → IsSome (tile_in t a)
tile_some t a w h = rw h.tile_is refl
