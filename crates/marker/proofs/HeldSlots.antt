-- Held slots of an object, which go one after another where their keys are nil.
use Rattle.std.proofs.Common.{◌≡◌, ◌<◌, ◌≤◌, ◌∷◌, ◌∙◌, ℕ, zero, suc, Option, Some, None, List, [], length, set, refl, sym, ap, arith}
use Rattle.std.proofs.Common.{slice_get, IsSome, inl, inr}
use Rattle.heap_model.specs.Graph.{held_by}
use Rattle.heap_model.specs.Heap.{Stored}
use Rattle.regions.specs.Table.{Table, object_at, object_weaks, object_held, weaks_at, held_at, set_held}
use Rattle.regions.specs.Shaped.{IsShaped}
use Rattle.regions.proofs.Tiles.Changes.{WritesObject, held_put}
use Rattle.marker.specs.Clears.{DropsHeld}

-- the first i held slots, where what a nil key holds is nil
abbrev pub partly_held : ℕ → List (Option ℕ) → List (Option ℕ) → List (Option ℕ)
partly_held zero ws vs = vs
partly_held (suc i) ws [] = []
partly_held (suc i) [] (v ∷ vs) = None ∷ partly_held i [] vs
partly_held (suc i) (None ∷ ws) (v ∷ vs) = None ∷ partly_held i ws vs
partly_held (suc i) (Some k ∷ ws) (v ∷ vs) = v ∷ partly_held i ws vs

nil_set : (i : ℕ) (ws vs : List (Option ℕ)) → i < length vs → slice_get ws i ≡ Some None
    → set (partly_held i ws vs) i None ≡ partly_held (suc i) ws vs
nil_set i ws [] h e = absurd (omega arith)
nil_set zero [] (v ∷ vs) h e = cc
nil_set zero (None ∷ ws) (v ∷ vs) h e = refl
nil_set zero (Some k ∷ ws) (v ∷ vs) h e = cc
nil_set (suc i) [] (v ∷ vs) h e = cc
nil_set (suc i) (None ∷ ws) (v ∷ vs) h e = ap (λ l. None ∷ l) (nil_set i ws vs (omega arith) e)
nil_set (suc i) (Some k ∷ ws) (v ∷ vs) h e = ap (λ l. v ∷ l) (nil_set i ws vs (omega arith) e)

key_stays : (i k : ℕ) (ws vs : List (Option ℕ)) → slice_get ws i ≡ Some (Some k) → partly_held i ws vs ≡ partly_held (suc i) ws vs
key_stays zero k ws [] e = refl
key_stays (suc i) k ws [] e = refl
key_stays zero k [] (v ∷ vs) e = cc
key_stays zero k (None ∷ ws) (v ∷ vs) e = cc
key_stays zero k (Some b ∷ ws) (v ∷ vs) e = refl
key_stays (suc i) k [] (v ∷ vs) e = cc
key_stays (suc i) k (None ∷ ws) (v ∷ vs) e = ap (λ l. None ∷ l) (key_stays i k ws vs e)
key_stays (suc i) k (Some b ∷ ws) (v ∷ vs) e = ap (λ l. v ∷ l) (key_stays i k ws vs e)

partly_all : (i : ℕ) (ws vs : List (Option ℕ)) → length vs ≤ i → partly_held i ws vs ≡ held_by ws vs
partly_all zero ws [] h = refl
partly_all zero ws (v ∷ vs) h = absurd (omega arith)
partly_all (suc i) ws [] h = refl
partly_all (suc i) [] (v ∷ vs) h = ap (λ l. None ∷ l) (partly_all i [] vs (omega arith))
partly_all (suc i) (None ∷ ws) (v ∷ vs) h = ap (λ l. None ∷ l) (partly_all i ws vs (omega arith))
partly_all (suc i) (Some k ∷ ws) (v ∷ vs) h = ap (λ l. v ∷ l) (partly_all i ws vs (omega arith))

length_partly : (i : ℕ) (ws vs : List (Option ℕ)) → length (partly_held i ws vs) ≡ length vs
length_partly zero ws vs = refl
length_partly (suc i) ws [] = refl
length_partly (suc i) [] (v ∷ vs) = ap suc (length_partly i [] vs)
length_partly (suc i) (None ∷ ws) (v ∷ vs) = ap suc (length_partly i ws vs)
length_partly (suc i) (Some k ∷ ws) (v ∷ vs) = ap suc (length_partly i ws vs)

-- the object once i of its held slots were looked at
abbrev pub with_looked : Stored → ℕ → Stored
with_looked s i = record s { held = partly_held i s.weaks s.held }

pub record IsDropping (t u : Table) (x i : ℕ) : Type 0 where
  pub object : Stored
  pub writes : WritesObject t u x object (with_looked object i)

some_object : (o : Option Stored) → IsSome o → (s : Stored) × (o ≡ Some s)
some_object None h = cc
some_object (Some s) h = (s, refl)

pub weaks_are : (t : Table) (x : ℕ) (s : Stored) → object_at t x ≡ Some s → weaks_at t x ≡ s.weaks
unfolding weaks_at
weaks_are t x s e = ap object_weaks e

pub held_are : (t : Table) (x : ℕ) (s : Stored) → object_at t x ≡ Some s → held_at t x ≡ s.held
unfolding held_at
held_are t x s e = ap object_held e

pub drop_first : (t : Table) (x : ℕ) → IsSome (object_at t x) → IsDropping t t x 0
drop_first t x h =
    let (s, e) = some_object (object_at t x) h in
    record {
      object = s;
      writes = record {
        size = refl;
        count = refl;
        was = e;
        is = e;
        others = λ y n. refl;
        kinds = λ k. refl;
        unmoved = λ n. n;
        used = λ k. refl;
      };
    }

module _ (t u : Table) (x i : ℕ) (shape : IsShaped t) (p : IsDropping t u x i) (less : i < length (held_at t x)) where
  inside : i < length p.object.held
  inside = omega (arith, less, ap (λ (l : List (Option ℕ)). length l) (held_are t x p.object p.writes.was))

  -- the slot is there, and so is its key
  pub drop_slot : i < length (held_at u x)
  drop_slot =
      omega (
        arith,
        inside,
        ap (λ (l : List (Option ℕ)). length l) (held_are u x (with_looked p.object i) p.writes.is),
        length_partly i p.object.weaks p.object.held,
      )

  pub drop_key : i < length (weaks_at u x)
  drop_key = elim (shape.paired x p.object p.writes.was) [
    | inl none ↦ absurd (omega (arith, inside, ap (λ (l : List (Option ℕ)). length l) none))
    | inr same ↦ omega (
      arith,
      inside,
      same,
      ap (λ (l : List (Option ℕ)). length l) (weaks_are u x (with_looked p.object i) p.writes.is),
    )
  ]

  module _ (key : Option ℕ) (read : slice_get (weaks_at u x) i ≡ Some key) where
    there : slice_get p.object.weaks i ≡ Some key
    there = sym (ap (λ l. slice_get l i) (weaks_are u x (with_looked p.object i) p.writes.is)) ∙ read

    pub drop_nil : key ≡ None → IsDropping t (set_held u x i None) x (suc i)
    drop_nil none =
        let w = p.writes in
        let v = held_put u x i None (with_looked p.object i) (rw w.size shape.positive) w.is in
        let slots = nil_set i p.object.weaks p.object.held inside (there ∙ ap (λ (o : Option ℕ). Some o) none) in
        record {
          object = p.object;
          writes = record {
            size = v.size ∙ w.size;
            count = v.count ∙ w.count;
            was = w.was;
            is = v.is ∙ ap (λ l. Some (record p.object { held = l })) slots;
            others = λ y n. v.others y n ∙ w.others y n;
            kinds = λ k. v.kinds k ∙ w.kinds k;
            unmoved = λ n. v.unmoved (w.unmoved n);
            used = λ k. v.used k ∙ w.used k;
          };
        }

    pub drop_none : (k : ℕ) → key ≡ Some k → IsDropping t u x (suc i)
    drop_none k some =
        let w = p.writes in
        let slots = key_stays i k p.object.weaks p.object.held (there ∙ ap (λ (o : Option ℕ). Some o) some) in
        record {
          object = p.object;
          writes = record {
            size = w.size;
            count = w.count;
            was = w.was;
            is = w.is ∙ ap (λ l. Some (record p.object { held = l })) slots;
            others = w.others;
            kinds = w.kinds;
            unmoved = w.unmoved;
            used = w.used;
          };
        }

pub drop_last : (t u : Table) (x i : ℕ) → IsDropping t u x i → i ≡ length (held_at t x) → DropsHeld t u x
drop_last t u x i p e =
    let w = p.writes in
    let all = partly_all i p.object.weaks p.object.held
    (omega (arith, e, ap (λ (l : List (Option ℕ)). length l) (held_are t x p.object w.was))) in
    record {
      object = p.object;
      was = w.was;
      size = w.size;
      count = w.count;
      kinds = w.kinds;
      used = w.used;
      unmoved = w.unmoved;
      is = w.is ∙ ap (λ l. Some (record p.object { held = l })) all;
      others = w.others;
    }
