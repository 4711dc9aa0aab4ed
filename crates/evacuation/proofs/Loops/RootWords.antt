-- Roots.
use Rattle.std.proofs.Common.{◌≡◌, ◌+◌, ◌≤◌, ◌∷◌, ◌∙◌, ℕ, suc, Bool, true, false, List, [], Option, Some, None, length, get_or, refl, sym}
use Rattle.std.proofs.Common.{ap, subst, inl, inr, arith, slice_get, slice_set, if◌then◌else◌}
use Rattle.std.specs.List.{AllZip}
use Rattle.std.proofs.lemmas.Bool.{cases_eq, cases_lt, cases_Bool}
use Rattle.std.proofs.lemmas.Option.{get_or_from_slice_get, slice_get-get_or}
use Rattle.root_table.specs.Roots.{AreNil}
use Rattle.std.proofs.lemmas.List.{length-set, get_or_past}
use Rattle.heap_model.specs.Relocation.{IsMoved}
use Rattle.heap_model.specs.Evacuation.{ByRootWord, place_after}
use Rattle.heap_model.proofs.Lists.{get-set_same, get-set_other}
use Rattle.evacuation.specs.Space.{Layout, Plan, IsPlan, IsNamed, AreRootsMoved, set_of}
use Rattle.evacuation.proofs.Lists.{get_below}

module _ (set : ℕ → Bool) (f f' : ℕ → Option ℕ) (grows : (a b : ℕ) → f a ≡ Some b → f' a ≡ Some b) where
  place_grows : (a b : ℕ) → place_after set f a ≡ Some b → place_after set f' a ≡ Some b
  place_grows a b e = elim (cases_Bool (set a)) [
    | inl k ↦ (let e' : f a ≡ Some b = rw k at e in rw k (grows a b e'))
    | inr k ↦ (let e' : Some a ≡ Some b = rw k at e in rw k e')
  ]

  pub moved_grows : (w w' : Option ℕ) → IsMoved (place_after set f) w w' → IsMoved (place_after set f') w w'
  moved_grows None None m = tt
  moved_grows None (Some b) m = absurd m
  moved_grows (Some a) None m = absurd m
  moved_grows (Some a) (Some b) m = place_grows a b m

  pub roots_more : (before now : List (Option ℕ)) (i : ℕ) (w w' : Option ℕ) → AreRootsMoved (place_after set f) before now i
      → slice_get now i ≡ Some w → IsMoved (place_after set f') w w'
      → AreRootsMoved (place_after set f') before (slice_set now i w') (i + 1)
  roots_more before now i w w' r here m = record {
    moved = λ j v v' h e e'. elim (cases_eq i j) [
      | inl q ↦
          let k1 = get-set_same now i w' w here in
          let k2 : slice_get (slice_set now i w') i ≡ Some v' = subst (λ (n : ℕ). slice_get (slice_set now i w') n ≡ Some v') (sym q) e' in
          let k3 : w' ≡ v' = cc in
          let k4 = r.same i (omega arith) in
          let k5 : slice_get before i ≡ Some v = subst (λ (n : ℕ). slice_get before n ≡ Some v) (sym q) e in
          let k6 : w ≡ v = cc in
          subst (λ (u : Option ℕ). IsMoved (place_after set f') v u) k3 (subst (λ (u : Option ℕ). IsMoved (place_after set f') u w') k6 m)
      | inr n ↦ moved_grows v v' (r.moved j v v' (omega arith) e (sym (get-set_other now i j w' n) ∙ e'))
    ];
    same = λ j h. get-set_other now i j w' (λ q. absurd (omega arith)) ∙ r.same j (omega arith);
    count = length-set now i w' ∙ r.count;
  }

zip_places : (R : Option ℕ → Option ℕ → Type 0) (xs ys : List (Option ℕ)) → length ys ≡ length xs
    → ((j : ℕ) (w w' : Option ℕ) → slice_get xs j ≡ Some w → slice_get ys j ≡ Some w' → R w w') → AllZip R xs ys
zip_places R [] [] n f = tt
zip_places R [] (y ∷ ys) n f = absurd (omega arith)
zip_places R (x ∷ xs) [] n f = absurd (omega arith)
zip_places R (x ∷ xs) (y ∷ ys) n f = (f 0 x y refl refl, zip_places R xs ys (omega arith) (λ j w w' e e'. f (suc j) w w' e e'))

pub roots_all : (place : ℕ → Option ℕ) (before now : List (Option ℕ)) (i : ℕ) → AreRootsMoved place before now i
    → length now ≤ i → AllZip (IsMoved place) before now
roots_all place before now i r h =
    zip_places (IsMoved place) before now r.count (λ j w w' e e'. r.moved j w w' (let k = get_below now j w' e' in omega arith) e e')

pub root_named : (l : Layout) (p : Plan) (place : ℕ → Option ℕ) (now : List (Option ℕ)) (i c : ℕ) → IsPlan l p
    → AreRootsMoved place p.heap.roots now i → slice_get now i ≡ Some (Some c) → set_of l c ≡ true → IsNamed l p c
root_named l p place now i c q r e inside =
    let e' = sym (r.same i (omega arith)) ∙ e in
    let (x, at) = q.closed.root i c e' in
    record { object = x; at = at; inside = inside; reached = ByRootWord c (record { place = i; is = e' }) inside }

-- the roots stay moved while more is forwarded
pub roots_grow : (set : ℕ → Bool) (f f' : ℕ → Option ℕ) → ((a b : ℕ) → f a ≡ Some b → f' a ≡ Some b) → (xs ys : List (Option ℕ))
    → AllZip (IsMoved (place_after set f)) xs ys → AllZip (IsMoved (place_after set f')) xs ys
roots_grow set f f' grows [] [] z = tt
roots_grow set f f' grows [] (y ∷ ys) z = absurd z
roots_grow set f f' grows (x ∷ xs) [] z = absurd z
roots_grow set f f' grows (x ∷ xs) (y ∷ ys) z = (moved_grows set f f' grows x y z.0, roots_grow set f f' grows xs ys z.1)

-- where nothing is evacuated, roots are where they were
pub roots_stay : (set : ℕ → Bool) (f : ℕ → Option ℕ) → ((a : ℕ) → set a ≡ false) → (xs : List (Option ℕ))
    → AllZip (IsMoved (place_after set f)) xs xs
roots_stay set f none [] = tt
roots_stay set f none (None ∷ xs) = (tt, roots_stay set f none xs)
roots_stay set f none (Some a ∷ xs) = (ap (λ (b : Bool). if b then f a else Some a) (none a), roots_stay set f none xs)

-- ---- roots that hold nil are passed over
nil_moved : (place : ℕ → Option ℕ) (w w' : Option ℕ) → w ≡ None → w' ≡ None → IsMoved place w w'
nil_moved place w w' e e' = rw (e, e') tt

pub roots_past : (place : ℕ → Option ℕ) (before now : List (Option ℕ)) (from i : ℕ) → AreNil now from i
    → AreRootsMoved place before now from → from ≤ i → AreRootsMoved place before now i
roots_past place before now from i nil r le = record {
  moved = λ j w w' h e e'. elim (cases_lt j from) [
    | inl less ↦ r.moved j w w' less e e'
    | inr more ↦
        let none : w' ≡ None = sym (get_or_from_slice_get now j w' None e') ∙ nil j more h in
        let same : Some w ≡ Some w' = sym e ∙ sym (r.same j more) ∙ e' in
        let both : w ≡ w' = cc in
        nil_moved place w w' (both ∙ none) none
  ];
  same = λ j h. r.same j (omega (arith, le, h));
  count = r.count;
}

-- the whole, where only nil stands behind
pub roots_rest : (place : ℕ → Option ℕ) (before now : List (Option ℕ)) (from : ℕ) → AreRootsMoved place before now from
    → AreNil now from (length now) → AllZip (IsMoved place) before now
roots_rest place before now from r nil = elim (cases_lt from (length now)) [
  | inl less ↦
      roots_all place before now (length now) (roots_past place before now from (length now) nil r (omega (arith, less))) (omega arith)
  | inr more ↦ roots_all place before now from r more
]

-- a place that doesn't hold nil is one of them
pub word_at : (words : List (Option ℕ)) (place a : ℕ) → Some a ≡ get_or words place None → slice_get words place ≡ Some (Some a)
word_at words place a e = elim (cases_lt place (length words)) [
  | inl within ↦ slice_get-get_or words place None within ∙ ap Some (sym e)
  | inr past ↦ absurd (let none : get_or words place None ≡ None = get_or_past words place None past in cc)
]
