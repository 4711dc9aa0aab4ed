-- Objects of pairs in the tables that tests build.
use Rattle.regions.proofs.Common.{◌≡◌, ◌≢◌, ◌+◌, ◌-◌, ◌<◌, ◌≤◌, ◌∷◌, ◌++◌, ◌∙◌, inl, inr, ℕ, [], Option, Some, None, length, get_or}
use Rattle.regions.proofs.Common.{refl, sym, ap, subst, arith, slice_get, cases_eq, cases_lt, replicate, length-replicate, slice_get_within}
use Rattle.regions.proofs.Common.{get_or_from_slice_get, get_or-replicate, fields, tile_size, tile_in, tile_object, object_at}
use Rattle.regions.proofs.Common.{Object, Filler, Table, push_tile, replace_tile, remainder, used_of, top_of, kind_of, HasObject, IsShaped}
use Rattle.regions.specs.Table.{new_pairs}
use Rattle.heap_model.specs.Heap.{Stored}
use Rattle.heap_model.proofs.Lists.{get-append_cases}
use Rattle.regions.proofs.Tiles.Made.{IsMade}
use Rattle.regions.proofs.Tiles.Placing.{Pushed, filler_push, Replaces, filler_replaced, tile_at-alone}
use Rattle.regions.specs.declared.row.Kind.TheVariants as kinds
use Rattle.marking_tests.specs.Samples.{KeepsTable}
use Rattle.marking_tests.proofs.Samples.{top_stays, same_size, same_shape}

nil_alone : (n i b : ℕ) → slice_get (replicate n None) i ≡ Some (Some b) → ⊥
nil_alone n i b e =
    let inside : i < n =
    let h = slice_get_within (replicate n None) i (Some b) e in
    omega (arith, h, length-replicate {A = Option ℕ} n None) in
    let read : get_or (replicate n None) i None ≡ Some b = get_or_from_slice_get (replicate n None) i (Some b) None e in
    let none : get_or (replicate n None) i None ≡ None = get_or-replicate {A = Option ℕ} n i None None inside in
    cc

nil_pairs : (name n i b : ℕ) → slice_get (fields (new_pairs name 0 n 0)) i ≡ Some (Some b) → ⊥
nil_pairs name n i b e = elim (get-append_cases (replicate n None) (replicate n None) i (Some b) e) [
  | inl q ↦ nil_alone n i b q
  | inr q ↦ nil_alone n q.0 b q.1
]

-- an object of pairs is made where a filler was pushed
module _ (t t' t'' : Table) (k a n pairs name : ℕ) (shape : IsShaped t) (shape' : IsShaped t') (known : k < length t.regions)
    (ordinary : kind_of t k ≡ kinds.Ordinary) (room : used_of t k + n ≤ t.words_per_region) (size : n ≡ 2 + pairs + pairs)
    (at : a ≡ top_of t k) (e : t' ≡ push_tile t k (Filler n))
    (e' : t'' ≡ replace_tile t' a (Object (new_pairs name 0 pairs 0) ∷ remainder (n - (2 + 0 + (pairs + pairs) + 0)))) where
  abbrev new : Stored
  new = new_pairs name 0 pairs 0

  push : Pushed t t' k a (Filler n)
  push = rw (e, at) (filler_push t k (Filler n) shape.positive shape.fitting known ordinary (omega (arith, size)) room tt)

  whole : n - (2 + 0 + (pairs + pairs) + 0) ≡ 0
  whole = omega (arith, size)

  words : tile_size (Object new) ≡ n
  words = omega (arith, size, length-replicate {A = Option ℕ} pairs None)

  replaced : Replaces t' t'' a n (Object new ∷ [])
  replaced =
      let e2 : t'' ≡ replace_tile t' a (Object new ∷ []) = e' ∙ ap (λ (m : ℕ). replace_tile t' a (Object new ∷ remainder m)) whole in
      subst (λ (u : Table). Replaces t' u a n (Object new ∷ [])) (sym e2)
      (filler_replaced t' a n (Object new ∷ []) shape'.positive shape'.fitting push.is (omega (arith, size))
      (omega (arith, words), tt) (omega (arith, words)) tt)

  here : tile_in t'' a ≡ Some (Object new)
  here = let z : a + 0 ≡ a = omega arith in ap (tile_in t'') (sym z) ∙ replaced.within 0 (omega (arith, size))

  middle : (y : ℕ) → y ≢ a → tile_in t'' y ≡ tile_in t' y
  middle y apart = elim (cases_lt y a) [
    | inl low ↦ replaced.others y (inl low)
    | inr high ↦ elim (cases_lt y (a + n)) [
      | inl inside ↦
          let j : ℕ = y - a in
          let y_is : a + j ≡ y = omega (arith, high) in
          ap (tile_in t'') (sym y_is) ∙ replaced.within j (omega (arith, high, inside))
          ∙ tile_at-alone (Object new) j (omega (arith, high, apart))
          ∙ sym (replaced.inside j (omega (arith, high, apart)) (omega (arith, high, inside))) ∙ ap (tile_in t') y_is
      | inr past ↦ replaced.others y (inr past)
    ]
  ]

  made : IsMade t t'' a (new_pairs name 0 pairs 0)
  unfolding object_at
  made = record {
    size = replaced.size ∙ push.size;
    count = replaced.count ∙ push.count;
    is = ap tile_object here;
    was = ap tile_object push.was;
    others = λ y apart. ap tile_object (middle y apart ∙ push.others y apart);
    used = λ j. elim (cases_eq j k) [
      | inl same ↦
          let used = push.used in
          let now = ap (used_of t') same in
          let was = ap (used_of t) same in
          omega (arith, used, now, was, replaced.used j)
      | inr apart ↦ omega (arith, push.used_others j apart, replaced.used j)
    ];
  }

  pairs_stay : (y : ℕ) → HasObject t y → HasObject t'' y
  pairs_stay y h = elim (cases_eq y a) [
    | inl same ↦ absurd (let o = sym (ap (object_at t) same) ∙ h.is in let w = made.was in cc)
    | inr apart ↦ record { object = h.object; is = made.others y apart ∙ h.is }
  ]

  pub pairs_keep : KeepsTable t t''
  pairs_keep = record {
    count = made.count;
    size = made.size;
    linked = λ l y i b x o f. elim (cases_eq y a) [
      | inl same ↦
          let x_is : x ≡ new_pairs name 0 pairs 0 = let m = made.is in let o' = sym (ap (object_at t'') same) ∙ o in cc in
          absurd (nil_pairs name pairs i b (ap (λ (q : Stored). slice_get (fields q) i) (sym x_is) ∙ f))
      | inr apart ↦ pairs_stay b (l y i b x (sym (made.others y apart) ∙ o) f)
    ];
    tops = λ j. top_stays t t'' j made.size (made.used j);
    stays = pairs_stay;
    words = λ y h. elim (cases_eq y a) [
      | inl same ↦ absurd (let o = sym (ap (object_at t) same) ∙ h.is in let none = made.was in cc)
      | inr apart ↦ same_size t t'' y y (made.others y apart)
    ];
    pointers = λ y h. elim (cases_eq y a) [
      | inl same ↦ absurd (let o = sym (ap (object_at t) same) ∙ h.is in let none = made.was in cc)
      | inr apart ↦ same_shape t t'' y y (made.others y apart)
    ];
  }

  pub pairs_made : HasObject t'' a
  pairs_made = record { object = new_pairs name 0 pairs 0; is = made.is }
