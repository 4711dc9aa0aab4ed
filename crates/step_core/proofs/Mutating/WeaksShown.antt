-- What the weak slots of an object show, of one that isn't kept too.
use Rattle.std.proofs.Common.{◌≡◌, ◌∙◌, ℕ, Option, Some, None, refl, sym, ap, slice_get, map, IsSome, if◌then◌else◌}
use Rattle.std.specs.Option.{is_some, option_map}
use Rattle.std.proofs.lemmas.Option.{slice_get-map}
use Rattle.heap_model.specs.Heap.{Stored}
use Rattle.heap_model.specs.Weak.{cleared_word}
use Rattle.heap_model.specs.Clearing.{kept_word, where_kept}
use Rattle.regions.specs.Table.{weaks_at, object_at, object_weaks}
use Rattle.marker.specs.Views as views
use Rattle.marker.proofs.Swept.{swept_first}
use Rattle.marker.proofs.Ended.{word_kept}
use Rattle.step_core.specs.Stands.{CoreState, kept_of, IsCore}
use Rattle.step_core.specs.Mutators.{weaks_shown}
use Rattle.step_core.proofs.Mutating.WeakReading.{kept_by_marks}

-- an object that has a weak slot is one of the table
slot_object : (o : Option Stored) (i : ℕ) (w : Option ℕ) → slice_get (object_weaks o) i ≡ Some w → IsSome o
slot_object None i w e = cc
slot_object (Some x) i w e = refl

has_slot : (k : CoreState) (a i : ℕ) (w : Option ℕ) → slice_get (weaks_at k.table a) i ≡ Some w → IsSome (object_at k.table a)
unfolding weaks_at
has_slot k a i w e = slot_object (object_at k.table a) i w e

module _ (k : CoreState) (core : IsCore k) (a i : ℕ) (w : Option ℕ) (here : slice_get (weaks_at k.table a) i ≡ Some w) where
  -- marks and tops tell whether it is kept
  by_marks : cleared_word (views.ended_marking_of k.table k.marker) (Some a) ≡ where_kept (kept_of k a) a
  unfolding kept_of
  by_marks = word_kept k.table k.table k.marker k.roots (λ (y : ℕ). ⊥) (swept_first
      (views.ended_marking_of k.table k.marker) k.table) core.slots.lead a a (has_slot k a i w here)

  -- one that isn't kept shows what it holds
  pub shown_raw : cleared_word (views.ended_marking_of k.table k.marker) (Some a) ≡ None
      → slice_get (weaks_shown k a) i ≡ Some w
  shown_raw none = go (kept_of k a) refl
    where
      go : (o : Option Stored) → kept_of k a ≡ o → slice_get (weaks_shown k a) i ≡ Some w
      go None e = rw e here
      go (Some x) e = absurd (let some : where_kept (kept_of k a) a ≡ Some a = ap (λ (o : Option Stored). where_kept o a) e in
          let no = sym by_marks ∙ none in cc)

  -- and a kept one what is kept of it
  pub shown_kept : (v : ℕ) → cleared_word (views.ended_marking_of k.table k.marker) (Some a) ≡ Some v
      → slice_get (weaks_shown k a) i ≡ Some (cleared_word (views.ended_marking_of k.table k.marker) w)
  shown_kept v some = go (kept_of k a) refl
    where
      go : (o : Option Stored) → kept_of k a ≡ o
          → slice_get (weaks_shown k a) i ≡ Some (cleared_word (views.ended_marking_of k.table k.marker) w)
      go None e = absurd (let none : where_kept (kept_of k a) a ≡ None = ap (λ (o : Option Stored). where_kept o a) e in
          let is = sym by_marks ∙ some in cc)
      go (Some x) e =
          ap (λ (o : Option Stored).
          slice_get (if is_some o then map (kept_word (kept_of k)) (weaks_at k.table a) else weaks_at k.table a) i) e
          ∙ slice_get-map (kept_word (kept_of k)) (weaks_at k.table a) i
          ∙ ap (option_map (kept_word (kept_of k))) here
          ∙ ap Some (sym (kept_by_marks k core a i x e w here))
