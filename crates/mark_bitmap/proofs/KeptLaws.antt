-- What is kept when regions lose their objects, and when marking is over.
use Rattle.regions.proofs.Common.{◌≡◌, ◌≢◌, ◌⊎◌, ◌/◌, ◌<◌, ◌≤◌, ◌∙◌, inl, inr, ℕ, Bool, true, false, List, Option, Some, None, get_or, refl}
use Rattle.regions.proofs.Common.{sym, ap, arith, ⊎_elim, if◌then◌else◌, cases_lt, cases_Bool, le-ltb, lt-ltb, Stored, Table, object_at}
use Rattle.heap_model.specs.Graph.{Graph, IsReachable, next_name}
use Rattle.heap_model.specs.Redirection.{ObjectMoved}
use Rattle.heap_model.specs.Marking.{KeepsSnapshot}
use Rattle.heap_model.specs.Weak.{cleared_object, cleared_after}
use Rattle.heap_model.proofs.Kept.{kept_by_marks}
use Rattle.mark_bitmap.specs.Marks.{is_marked}
use Rattle.mark_bitmap.specs.Tops.{Tops, is_in_region, is_below, below_previous, below_next, with_bottom, exchanged, AreNewer}
use Rattle.mark_bitmap.specs.Grey.{Scans}
use Rattle.mark_bitmap.specs.Kept.{kept_in, heap_in, marking_in}
use Rattle.mark_bitmap.proofs.Ranges.{below_set_other}

none_either_way : (object : Option Stored) (below marked : Bool) → object ≡ None
    → (if below then (if marked then object else None) else object) ≡ None
none_either_way object true false e = refl
none_either_way object _ _ e = e

pub gone_kept : (t t' : Table) (tops tops' : Tops) (previous previous' : List Bool) (gone : ℕ → Bool)
    → ((a : ℕ) → object_at t' a ≡ (if gone a then None else object_at t a))
    → ((a : ℕ) → gone a ≡ false → below_previous t' tops' a ≡ below_previous t tops a)
    → ((a : ℕ) → gone a ≡ false → is_marked previous' a ≡ is_marked previous a)
    → (a : ℕ) → kept_in t' tops' previous' a ≡ (if gone a then None else kept_in t tops previous a)
gone_kept t t' tops tops' previous previous' gone objects below marks a =
    elim (cases_Bool (gone a)) [
      | inl g ↦
          let gone_at : object_at t' a ≡ None = objects a ∙ ap (λ b. if b then None else object_at t a) g in
          rw g (none_either_way (object_at t' a) (below_previous t' tops' a) (is_marked previous' a) gone_at)
      | inr g ↦
          let same : object_at t' a ≡ object_at t a = objects a ∙ ap (λ b. if b then None else object_at t a) g in
          rw (g, same, below a g, marks a g) refl
    ]

pub region_kept : (t t' : Table) (tops : Tops) (previous previous' : List Bool) (k bottom : ℕ)
    → 0 < t.words_per_region → t'.words_per_region ≡ t.words_per_region
    → ((a : ℕ) → object_at t' a ≡ (if is_in_region t.words_per_region k a then None else object_at t a))
    → ((a : ℕ) → is_marked previous' a ≡ (if is_in_region t.words_per_region k a then false else is_marked previous a))
    → (a : ℕ)
    → kept_in t' (with_bottom tops k bottom) previous' a ≡ (if is_in_region t.words_per_region k a then None else kept_in t tops previous a)
region_kept t t' tops previous previous' k bottom z words objects marks a =
    let words' : ℕ = t.words_per_region in
    gone_kept t t' tops (with_bottom tops k bottom) previous previous' (is_in_region words' k) objects
    (λ b out.
    ap (λ (n : ℕ). is_below n (with_bottom tops k bottom).previous b) words ∙ below_set_other words' tops.previous k bottom b z out)
    (λ b out. marks b ∙ ap (λ x. if x then false else is_marked previous b) out) a

-- where no next top lies below the previous one
pub newer_below : (t : Table) (tops : Tops) (a : ℕ) → AreNewer tops → below_next t tops a ≡ false → below_previous t tops a ≡ false
unfolding is_below
newer_below t tops a newer h =
    let next : ℕ = get_or tops.next (a / t.words_per_region) 0 in
    let far : next ≤ a = ⊎_elim (λ b. let e = lt-ltb a next b in absurd (let f = h in cc)) (λ b. b) (cases_lt a next) in
    le-ltb a (get_or tops.previous (a / t.words_per_region) 0) (omega (arith, far, newer (a / t.words_per_region)))

pub swap_kept : (s : Graph) (t t' : Table) (tops : Tops) (previous next : List Bool) (scans : Scans)
    (logged : List ℕ) (roots : List (Option ℕ)) → AreNewer tops
    → KeepsSnapshot s (heap_in t tops previous roots) (marking_in t tops next scans logged)
    → t'.words_per_region ≡ t.words_per_region
    → ((a : ℕ) → (is_marked next a ≡ true) ⊎ (below_next t tops a ≡ false)
    → object_at t' a ≡ cleared_object (marking_in t tops next scans logged) (object_at t a))
    → (a : ℕ) → kept_in t' (exchanged tops) next a ≡ cleared_after (heap_in t tops previous roots) (marking_in t tops next scans logged) a
swap_kept s t t' tops previous next scans logged roots newer i words clears a =
    ap (λ (w : ℕ). if is_below w tops.next a then (if is_marked next a then object_at t' a else None) else object_at t' a) words
    ∙ (kept_by_marks (IsReachable s) (next_name s) (object_at t) (object_at t') (below_previous t tops) (is_marked previous)
    roots (marking_in t tops next scans logged) i (λ b h. newer_below t tops b newer h) clears a)

pub object_moved : (t t' : Table) (tops tops' : Tops) (previous previous' : List Bool) (roots : List (Option ℕ)) (from to : ℕ)
    (object : Stored) (touched : ℕ → Bool) → kept_in t tops previous from ≡ Some object → object_at t to ≡ None
    → object_at t' to ≡ Some object → object_at t' from ≡ None → ((a : ℕ) → a ≢ from → a ≢ to → object_at t' a ≡ object_at t a)
    → ((a : ℕ) → touched a ≡ true → a ≢ from → object_at t a ≡ None) → below_previous t' tops' to ≡ false
    → ((a : ℕ) → touched a ≡ false → below_previous t' tops' a ≡ below_previous t tops a)
    → ((a : ℕ) → touched a ≡ false → is_marked previous' a ≡ is_marked previous a)
    → ObjectMoved (heap_in t tops previous roots) (heap_in t' tops' previous' roots) from to object
object_moved t t' tops tops' previous previous' roots from to object touched was room is gone others alone above below marks = record {
  was = was;
  room = none_either_way (object_at t to) (below_previous t tops to) (is_marked previous to) room;
  is = rw above is;
  gone = none_either_way (object_at t' from) (below_previous t' tops' from) (is_marked previous' from) gone;
  others = λ a n m. elim (cases_Bool (touched a)) [
    | inl g ↦
        let none : object_at t a ≡ None = alone a g n in
        none_either_way (object_at t' a) (below_previous t' tops' a) (is_marked previous' a) (others a n m ∙ none)
        ∙ sym (none_either_way (object_at t a) (below_previous t tops a) (is_marked previous a) none)
    | inr g ↦ rw (others a n m, below a g, marks a g) refl
  ];
  roots = refl;
}
