-- A field that is set.
use Rattle.std.proofs.Common.{◌≡◌, ℕ, zero, suc, ◌+◌, ◌-◌, ◌<◌, ◌≤◌, false, List, ◌∷◌, [], ◌++◌, length, Option, refl, ap, ◌∙◌, inl, inr}
use Rattle.std.proofs.Common.{arith}
use Rattle.std.specs.Prelude.{slice_set}
use Rattle.std.proofs.Math.Dec.{ltb}
use Rattle.std.proofs.lemmas.Bool.{cases_lt, lt-ltb, ltb-true}
use Rattle.heap_model.specs.Heap.{Stored, fields, with_field}
use Rattle.heap_model.proofs.Names.{bool_cases}
use Rattle.heap_model.proofs.Lists.{length-set}

pub ltb_above : (a b : ℕ) → b ≤ a → ltb a b ≡ false
ltb_above a b k = elim (bool_cases (ltb a b)) [ inl e ↦ absurd (let below = ltb-true a b e in omega arith) | inr e ↦ e ]

module _ {A : Type 0} where
  set-append_front : (xs ys : List A) (i : ℕ) (v : A) → i < length xs → slice_set xs i v ++ ys ≡ slice_set (xs ++ ys) i v
  set-append_front [] ys i v h = absurd (omega arith)
  set-append_front (x ∷ xs) ys zero v h = refl
  set-append_front (x ∷ xs) ys (suc i) v h = ap (λ k. x ∷ k) (set-append_front xs ys i v (omega arith))

  set-append_back : (xs ys : List A) (i j : ℕ) (v : A) → i ≡ length xs + j → xs ++ slice_set ys j v ≡ slice_set (xs ++ ys) i v
  set-append_back [] ys i j v e = let same : i ≡ j = omega arith in rw same refl
  set-append_back (x ∷ xs) ys zero j v e = absurd (omega arith)
  set-append_back (x ∷ xs) ys (suc i) j v e = ap (λ k. x ∷ k) (set-append_back xs ys i j v (omega arith))

pub record IsFieldSet (x y : Stored) (i : ℕ) (v : Option ℕ) : Type 0 where
  pub name : y.name ≡ x.name
  pub fields_are : fields y ≡ slice_set (fields x) i v
  pub shape : length y.pointers ≡ length x.pointers
  pub slots : length y.weaks ≡ length x.weaks
  pub held : length y.held ≡ length x.held
  pub values : y.values ≡ x.values

pub field_set : (x : Stored) (i : ℕ) (v : Option ℕ) → IsFieldSet x (with_field x i v) i v
field_set x i v = elim (cases_lt i (length x.pointers)) [
  | inl k ↦
      let e = lt-ltb i (length x.pointers) k in
      rw e (record {
        name = refl;
        fields_are = set-append_front x.pointers (x.weaks ++ x.held) i v k;
        shape = length-set x.pointers i v;
        slots = refl;
        held = refl;
        values = refl;
      })
  | inr k ↦
      let e = ltb_above i (length x.pointers) k in
      let behind = set-append_back x.pointers (x.weaks ++ x.held) i (i - length x.pointers) v (omega arith) in
      elim (cases_lt (i - length x.pointers) (length x.weaks)) [
        | inl l ↦
            let f = lt-ltb (i - length x.pointers) (length x.weaks) l in
            rw (e, f) (record {
              name = refl;
              fields_are = ap (λ r. x.pointers ++ r) (set-append_front x.weaks x.held (i - length x.pointers) v l) ∙ behind;
              shape = refl;
              slots = length-set x.weaks (i - length x.pointers) v;
              held = refl;
              values = refl;
            })
        | inr l ↦
            let f = ltb_above (i - length x.pointers) (length x.weaks) l in
            rw (e, f) (record {
              name = refl;
              fields_are = ap (λ r. x.pointers ++ r) (set-append_back x.weaks x.held (i - length x.pointers)
                  (i - length x.pointers - length x.weaks) v (omega arith)) ∙ behind;
              shape = refl;
              slots = refl;
              held = length-set x.held (i - length x.pointers - length x.weaks) v;
              values = refl;
            })
      ]
]
