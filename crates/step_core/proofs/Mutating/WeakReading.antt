-- What a weak slot of an object that a root names shows.
use Rattle.std.proofs.Common.{◌≡◌, ◌∙◌, ℕ, Option, Some, None, List, refl, sym, ap, subst, slice_get}
use Rattle.heap_model.specs.Heap.{Stored, IsRoot}
use Rattle.heap_model.specs.Weak.{cleared_word}
use Rattle.heap_model.specs.Clearing.{IsClearedTo, kept_word}
use Rattle.regions.specs.Table.{weaks_at}
use Rattle.marker.specs.Views as views
use Rattle.marker.proofs.Swept.{swept_first}
use Rattle.marker.proofs.Ended.{word_kept}
use Rattle.step_core.specs.Stands.{CoreState, kept_of, heap_of, IsCore}
use Rattle.step_core.specs.Mutators.{weak_of}
use Rattle.step_core.proofs.Mutating.Reading.{get_or-get, weaks_there}
use Rattle.step_core.proofs.Mutating.Storing.{rooted}

-- it is what it holds, seen by what is kept
pub slot_value : (c : CoreState) (a i : ℕ) (w : Option ℕ) → slice_get (weaks_at c.table a) i ≡ Some w
    → weak_of c a i ≡ kept_word (kept_of c) w
slot_value c a i w e = ap (kept_word (kept_of c)) (get_or-get (weaks_at c.table a) i None w e)

-- the target of a kept object's slot is an object of the table, so marks and tops tell whether it is kept
pub kept_by_marks : (k : CoreState) → IsCore k → (a i : ℕ) (x : Stored) → kept_of k a ≡ Some x → (w : Option ℕ)
    → slice_get (weaks_at k.table a) i ≡ Some w → cleared_word (views.ended_marking_of k.table k.marker) w ≡ kept_word (kept_of k) w
unfolding kept_of
kept_by_marks k core a i x at None e = refl
kept_by_marks k core a i x at (Some b) e =
    word_kept k.table k.table k.marker k.roots (λ (y : ℕ). ⊥) (swept_first
    (views.ended_marking_of k.table k.marker) k.table) core.slots.lead
    a b (core.slots.lead a b (record {
      object = x;
      at = at;
      slot = i;
      is = ap (λ (ws : List (Option ℕ)). slice_get ws i) (sym (weaks_there k a x at)) ∙ e;
    }))

module _ (k : CoreState) (core : IsCore k) (a i : ℕ) (root : IsRoot (heap_of k) a) where
  slot_in : (w : Option ℕ) → slice_get (weaks_at k.table a) i ≡ Some w → slice_get (rooted k a core root).stored.weaks i ≡ Some w
  slot_in w e =
      let r = rooted k a core root in
      ap (λ (ws : List (Option ℕ)). slice_get ws i) (sym (weaks_there k a r.stored r.at)) ∙ e

  pub slot_by_marks : (w : Option ℕ) → slice_get (weaks_at k.table a) i ≡ Some w
      → cleared_word (views.ended_marking_of k.table k.marker) w ≡ weak_of k a i
  slot_by_marks w e =
      let r = rooted k a core root in
      kept_by_marks k core a i r.stored r.at w e ∙ sym (slot_value k a i w e)

  -- where nothing is left to clear it is kept
  pub slot_settled : k.clearing ≡ None → (w : Option ℕ) → slice_get (weaks_at k.table a) i ≡ Some w → w ≡ weak_of k a i
  slot_settled none w e = sym (go w e) ∙ sym (slot_value k a i w e)
    where
      go : (w : Option ℕ) → slice_get (weaks_at k.table a) i ≡ Some w → kept_word (kept_of k) w ≡ w
      go None e = refl
      go (Some b) e =
          let r = rooted k a core root in
          let done : IsClearedTo None (heap_of k) = subst (λ (p : Option ℕ). IsClearedTo p (heap_of k)) none core.slots.cleared in
          let there = done a b tt (record { object = r.stored; at = r.at; slot = i; is = slot_in (Some b) e }) in
          let at = there.at in
          rw at refl
