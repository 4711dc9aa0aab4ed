-- Weak slots of a core: where they lead, and what that needs.
use Rattle.std.proofs.Common.{◌≡◌, ℕ, ◌∙◌, ◌⊎◌, Option, Some, None, refl, sym, ap, subst, inl, inr, slice_get, IsSome}
use Rattle.std.proofs.lemmas.Bool.{cases_eq}
use Rattle.heap_model.specs.Graph.{Graph}
use Rattle.heap_model.specs.Heap.{Stored, Shows, IsClosed, ObjectSet, ObjectAdded}
use Rattle.heap_model.specs.Clearing.{HasWeak, KeepsAt, IsClearedTo}
use Rattle.heap_model.proofs.Shown.{closed}
use Rattle.heap_model.proofs.Waiting.{shows_cleared_heap, nothing_left, still_cleared}
use Rattle.heap_model.proofs.Changed.{added_kept, added_before}
use Rattle.regions.specs.Table.{object_at}
use Rattle.step_core.specs.Stands.{CoreState, kept_of, heap_of, ShowsGraph, IsClearing, IsCore}
use Rattle.step_core.proofs.Mutating.Reading.{object_kept}

-- where nothing is left to clear, the heap shows the graph as it is
pub shows_now : (k : CoreState) → IsCore k → k.clearing ≡ None → (g : Graph) → ShowsGraph g k → Shows g (heap_of k)
shows_now k core none g s =
    shows_cleared_heap g (heap_of k) s.shows (subst (λ (p : Option ℕ). IsClearedTo p (heap_of k)) none core.slots.cleared)

pub all_closed : (k : CoreState) → IsCore k → k.clearing ≡ None → IsClosed (heap_of k)
all_closed k core none = closed core.footing.graph (heap_of k) (shows_now k core none core.footing.graph core.rests.shows)

-- the other way round
pub slots_now : (c : CoreState) (g : Graph) → Shows g (heap_of c) → IsClearing c
slots_now c g s = record {
  cleared = λ a b p w. nothing_left g (heap_of c) s a b tt w;
  lead = λ a b w. let k = nothing_left g (heap_of c) s a b tt w in let at = object_kept c b k.object k.at in rw at refl;
}

-- each slot was there, or leads to a kept object
slots_on : (k c : CoreState) → IsClearing k → c.clearing ≡ k.clearing
    → ((a b : ℕ) → HasWeak (heap_of c) a b → HasWeak (heap_of k) a b ⊎ KeepsAt (heap_of c) b)
    → ((b : ℕ) → KeepsAt (heap_of k) b → KeepsAt (heap_of c) b)
    → ((b : ℕ) → IsSome (object_at k.table b) → IsSome (object_at c.table b)) → IsClearing c
slots_on k c s same was on there = record {
  cleared = subst (λ (p : Option ℕ). IsClearedTo p (heap_of c)) (sym same) (still_cleared (heap_of k)
      (heap_of c) k.clearing was on s.cleared);
  lead = λ a b w. elim (was a b w) [
    | inl q ↦ there b (s.lead a b q)
    | inr q ↦ let at = object_kept c b q.object q.at in rw at refl
  ];
}

-- the same is kept
pub slots_same : (k c : CoreState) → IsClearing k → c.clearing ≡ k.clearing → ((a : ℕ) → kept_of c a ≡ kept_of k a)
    → ((b : ℕ) → IsSome (object_at k.table b) → IsSome (object_at c.table b)) → IsClearing c
slots_same k c s same kept there = slots_on k c s same
    (λ a b w. inl (record { object = w.object; at = sym (kept a) ∙ w.at; slot = w.slot; is = w.is }))
    (λ b q. record { object = q.object; at = kept b ∙ q.at }) there

-- an object is written: each of its slots holds what one did, or leads to a kept object
module _ (k c : CoreState) (a : ℕ) (x y : Stored) (set : ObjectSet (heap_of k) (heap_of c) a x y) where
  set_on : (b : ℕ) → KeepsAt (heap_of k) b → KeepsAt (heap_of c) b
  set_on b q = elim (cases_eq b a) [
    | inl same ↦ record { object = y; at = ap (kept_of c) same ∙ set.is }
    | inr other ↦ record { object = q.object; at = set.others b other ∙ q.at }
  ]

  pub slots_set : IsClearing k → c.clearing ≡ k.clearing
      → ((i b : ℕ) → slice_get y.weaks i ≡ Some (Some b) → (slice_get x.weaks i ≡ Some (Some b)) ⊎ KeepsAt (heap_of k) b)
      → ((b : ℕ) → IsSome (object_at k.table b) → IsSome (object_at c.table b)) → IsClearing c
  slots_set s same each there = slots_on k c s same was set_on there
    where
      was : (d b : ℕ) → HasWeak (heap_of c) d b → HasWeak (heap_of k) d b ⊎ KeepsAt (heap_of c) b
      was d b w = elim (cases_eq d a) [
        | inl here ↦
            let is : w.object ≡ y = let e1 = w.at in let e2 = set.is in let e3 = ap (kept_of c) here in cc in
            elim (each w.slot b (ap (λ (z : Stored). slice_get z.weaks w.slot) (sym is) ∙ w.is)) [
              | inl q ↦ inl (record { object = x; at = ap (kept_of k) here ∙ set.was; slot = w.slot; is = q })
              | inr q ↦ inr (set_on b q)
            ]
        | inr other ↦ inl (record { object = w.object; at = sym (set.others d other) ∙ w.at; slot = w.slot; is = w.is })
      ]

-- an object is added, whose slots are nil
pub slots_added : (k c : CoreState) (a : ℕ) (x : Stored) (place : ℕ) → ObjectAdded (heap_of k) (heap_of c) a x place → IsClearing k
    → c.clearing ≡ k.clearing → ((i b : ℕ) → slice_get x.weaks i ≡ Some (Some b) → ⊥)
    → ((b : ℕ) → IsSome (object_at k.table b) → IsSome (object_at c.table b)) → IsClearing c
slots_added k c a x place added s same nil there = slots_on k c s same
    (λ d b w. elim (added_before (heap_of k) (heap_of c) a x place added d w.object w.at) [
      | inl q ↦ absurd (nil w.slot b (ap (λ (z : Stored). slice_get z.weaks w.slot) (sym q.1) ∙ w.is))
      | inr q ↦ inl (record { object = w.object; at = q; slot = w.slot; is = w.is })
    ])
    (λ b q. record { object = q.object; at = added_kept (heap_of k) (heap_of c) a x place added b q.object q.at }) there

-- no slot leads to where no object is
pub leads_elsewhere : (k : CoreState) (a : ℕ) → IsClearing k → object_at k.table a ≡ None → (b : ℕ) → HasWeak (heap_of k) b a → ⊥
leads_elsewhere k a s none b w = let some = s.lead b a w in absurd (let q = some in cc)

-- an object that is there stays one
pub object_stays : (k c : CoreState) → ((b : ℕ) (x : Stored) → object_at k.table b ≡ Some x → (y : Stored) × (object_at c.table b ≡ Some y))
    → (b : ℕ) → IsSome (object_at k.table b) → IsSome (object_at c.table b)
object_stays k c on b h = go (object_at k.table b) refl h
  where
    go : (o : Option Stored) → object_at k.table b ≡ o → IsSome (object_at k.table b) → IsSome (object_at c.table b)
    go None e h = absurd (let q = h in cc)
    go (Some x) e h = let (y, is) = on b x e in rw is refl
