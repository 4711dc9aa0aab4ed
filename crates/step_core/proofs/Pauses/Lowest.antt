-- The search for the lowest run that can move down.
use Rattle.std.proofs.Common.{◌≡◌, ◌≢◌, ◌+◌, ◌-◌, ◌*◌, ◌<◌, ◌≤◌, ◌∙◌, ℕ, Some, length, sym, ap, subst}
use Rattle.std.proofs.Common.{arith, inl, inr}
use Rattle.std.proofs.lemmas.Bool.{cases_eq, cases_lt}
use Rattle.heap_model.specs.Heap.{Stored}
use Rattle.regions.specs.Tiles.{Object, tile_size}
use Rattle.regions.specs.Table.{kind_of}
use Rattle.regions.specs.declared.row.Kind.TheVariants as kinds
use Rattle.step_core.specs.Stands.{CoreState, kept_of}
use Rattle.step_core.specs.Sliding.{IsMovable, IsLowestMovable}
use Rattle.regions.proofs.Words.Divides.{div_is}
use Rattle.refinement.proofs.Holders.{object_known}
use Rattle.step_core.proofs.Pauses.Slid.{kept_there}

-- the regions below a number were looked at: those from `to` on are free, and the one below `to` isn't; no run below the number can move
pub record HasSearched (k : CoreState) (words number to : ℕ) : Type 0 where
  pub low : to ≤ number
  pub free : (j : ℕ) → to ≤ j → j < number → kind_of k.table j ≡ kinds.Free
  pub bottom : (j : ℕ) → j + 1 ≡ to → kind_of k.table j ≢ kinds.Free
  pub none : (i j : ℕ) (m : IsMovable k i j) → tile_size (Object m.object) ≤ words → number ≤ i

pub none_searched : (k : CoreState) (words : ℕ) → HasSearched k words 0 0
none_searched k words = record {
  low = omega arith;
  free = λ j low high. absurd (omega arith);
  bottom = λ j e. absurd (omega arith);
  none = λ i j m small. omega arith;
}

module _ (k : CoreState) (words number to : ℕ) (s : HasSearched k words number to) where
  -- a run that begins at the number and can move has a free region below
  above_free : (j : ℕ) → IsMovable k number j → to ≤ j
  above_free j m = elim (cases_lt j to) [
    | inr le ↦ le
    | inl less ↦
        let below = m.below in
        let low = s.low in
        let e : to - 1 + 1 ≡ to = omega arith in
        absurd (s.bottom (to - 1) e (m.free (to - 1) (omega arith) (omega arith)))
  ]

  pub lowest_found : (x : Stored) → to < number → kind_of k.table number ≡ kinds.First
      → kept_of k (number * k.table.words_per_region) ≡ Some x → tile_size (Object x) ≤ words → IsLowestMovable k words number to
  lowest_found x less run kept small = record {
    movable = record { run = run; object = x; is_kept = kept; below = less; free = s.free };
    within = small;
    lowest = s.none;
    bottom = above_free;
  }

  next_none : ((j : ℕ) (m : IsMovable k number j) → tile_size (Object m.object) ≤ words → ⊥) → (i j : ℕ) (m : IsMovable k i j)
      → tile_size (Object m.object) ≤ words → number + 1 ≤ i
  next_none here i j m small = elim (cases_eq i number) [
    | inl e ↦ absurd (subst (λ (n : ℕ). (q : IsMovable k n j) → tile_size (Object q.object) ≤ words → ⊥) (sym e) (here j) m small)
    | inr n ↦ (let le = s.none i j m small in omega (arith, le, n))
  ]

  -- the next region is free
  pub free_searched : kind_of k.table number ≡ kinds.Free → HasSearched k words (number + 1) to
  free_searched is = record {
    low = (let l = s.low in omega (arith, l));
    free = λ j low high. elim (cases_eq j number) [
      | inl e ↦ ap (kind_of k.table) e ∙ is
      | inr n ↦ s.free j low (omega (arith, high, n))
    ];
    bottom = s.bottom;
    none = next_none (λ j m small. (let r = m.run in cc));
  }

  -- it isn't, and no run that can move begins there
  pub used_searched : kind_of k.table number ≢ kinds.Free
      → (to < number → kind_of k.table number ≡ kinds.First → (x : Stored) → kept_of k (number * k.table.words_per_region) ≡ Some x
      → words < tile_size (Object x)) → HasSearched k words (number + 1) (number + 1)
  used_searched used large = record {
    low = omega arith;
    free = λ j low high. absurd (omega arith);
    bottom = λ j e free. used (ap (kind_of k.table) (let q : number ≡ j = omega (arith, e) in q) ∙ free);
    none = next_none (λ j m small.
        let low = above_free j m in
        let below = m.below in
        let more = large (omega (arith, low, below)) m.run m.object m.is_kept in
        omega (arith, more, small));
  }

pub none_left : (k : CoreState) (words number to : ℕ) → 0 < k.table.words_per_region → HasSearched k words number to
    → length k.table.regions ≤ number → (i j : ℕ) (m : IsMovable k i j) → tile_size (Object m.object) ≤ words → ⊥
none_left k words number to z s past i j m small =
    let le = s.none i j m small in
    let lt = object_known k.table (i * k.table.words_per_region) m.object
    (kept_there k (i * k.table.words_per_region) m.object m.is_kept) in
    let e = div_is (i * k.table.words_per_region) k.table.words_per_region i (omega arith) (omega (arith, z)) in
    omega (arith, le, lt, past, e)
