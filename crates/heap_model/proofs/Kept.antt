-- What is kept at the end of marking, by tiles.
use Rattle.std.proofs.Common.{◌≡◌, ℕ, ◌⊎◌, Bool, true, false, List, Option, refl, inl, inr}
use Rattle.heap_model.specs.Heap.{Stored}
use Rattle.heap_model.specs.Marking.{Marking, MarkingInvariant}
use Rattle.heap_model.specs.Weak.{cleared_object, cleared_after}
use Rattle.heap_model.specs.Kept.{kept_by}
use Rattle.heap_model.proofs.Names.{bool_cases}

-- where the next tops are nowhere below the previous ones, the new marks and tops keep what marking keeps, cleared
module _ (live : ℕ → Type 0) (limit : ℕ) (tiles cleared_tiles : ℕ → Option Stored) (below marked : ℕ → Bool) (roots : List (Option ℕ))
    (m : Marking)
    (i : MarkingInvariant live limit (record { kept = kept_by tiles below marked; roots = roots }) m)
    (tops : (a : ℕ) → m.old a ≡ false → below a ≡ false)
    (clears : (a : ℕ) → (m.marked a ≡ true) ⊎ (m.old a ≡ false) → cleared_tiles a ≡ cleared_object m (tiles a)) where
  pub kept_by_marks : (a : ℕ) → kept_by cleared_tiles m.old m.marked a ≡ cleared_after
      (record { kept = kept_by tiles below marked; roots = roots }) m a
  kept_by_marks a =
      elim (bool_cases (m.marked a)) [
        | inl k ↦
            let r = i.marked a k in
            let o = r.old in
            elim (bool_cases (below a)) [
              | inl b ↦ elim (bool_cases (marked a)) [
                | inl p ↦ rw (k, o, b, p) (clears a (inl k))
                | inr p ↦ absurd (let at = rw (b, p) at r.at in cc)
              ]
              | inr b ↦ rw (k, o, b) (clears a (inl k))
            ]
        | inr k ↦ elim (bool_cases (m.old a)) [
          | inl o ↦ rw (k, o) refl
          | inr o ↦ let b = tops a o in rw (k, o, b) (clears a (inr o))
        ]
      ]
