-- Regions are forgotten one after another.
use Rattle.std.proofs.Common.{◌≡◌, ◌+◌, ◌*◌, ◌/◌, ◌<◌, ◌∙◌, ℕ, Bool, false, List, length, refl, sym, ap, arith, inl, inr, ◌||◌, ◌==◌}
use Rattle.std.proofs.Common.{if◌then◌else◌}
use Rattle.std.proofs.lemmas.Bool.{cases_lt}
use Rattle.std.proofs.lemmas.Bool.Decides.{eqb_tells}
use Rattle.std.proofs.Math.Bool.{or-true, or-false}
use Rattle.bit_sets.specs.Bits.{has, is_between}
use Rattle.bit_sets.proofs.BitRanges.{between_yes, between_no_below, between_no_above, between_same}
use Rattle.mark_bitmap.specs.Marks.{is_marked}
use Rattle.mark_bitmap.specs.Tops.{Tops, is_in_region, with_bottom}
use Rattle.marker.specs.declared.marker.Marker.{Marker}
use Rattle.remembered_sets.specs.Sets.{Sets, emptied, set_of}
use Rattle.evacuation.specs.Evacuates.{MarksAfter}
use Rattle.evacuation.proofs.WholePause.ChosenReleased.{step_marks}
use Rattle.step_core.specs.Cleaning.{HasForgotten, HasEmptied}

-- a marker is the one before with other tops and marks, if the rest is the same
pub marker_is : (m0 m : Marker) → m.grey ≡ m0.grey → m.logs ≡ m0.logs → m.running ≡ m0.running → m.scans ≡ m0.scans
    → m.waiting ≡ m0.waiting → m ≡ record m0 { tams = m.tams; bitmaps = m.bitmaps; live = m.live }
marker_is m0 m grey logs running scans waiting = rw (sym grey, sym logs, sym running, sym scans, sym waiting) refl

-- none of no regions
pub none_between : (k j : ℕ) → is_between k (k + 0) j ≡ false
none_between k j = elim (cases_lt j k) [
  | inl less ↦ between_no_below k (k + 0) j less
  | inr more ↦ between_no_above k (k + 0) j (omega arith)
]

-- one region more
pub one_between : (k i q : ℕ) → q ≡ k + i → (j : ℕ) → is_between k (k + (i + 1)) j ≡ (is_between k (k + i) j || (q == j))
one_between k i q at j = elim (eqb_tells q j) [
  | inl e ↦ between_yes k (k + (i + 1)) j (omega (arith, at, e.1)) (omega (arith, at, e.1))
      ∙ sym (ap (λ (b : Bool). is_between k (k + i) j || b) e.0 ∙ or-true (is_between k (k + i) j))
  | inr e ↦ between_same k (k + (i + 1)) (k + i) j (λ h. omega (arith, at, e.1, h)) (λ h. omega (arith, h))
      ∙ sym (ap (λ (b : Bool). is_between k (k + i) j || b) e.0 ∙ or-false (is_between k (k + i) j))
]

none_marks : (words k : ℕ) (tops : List ℕ) (marks : List Bool) → MarksAfter words (is_between k (k + 0)) tops tops marks marks
none_marks words k tops marks = record {
  count = refl;
  each_top = λ j h. rw (none_between k j) refl;
  each_word = refl;
  each_mark = λ a. rw (none_between k (a / words)) refl;
}

pub none_forgotten : (words k : ℕ) (m : Marker) → HasForgotten words k 0 m m
none_forgotten words k m = record {
  same = refl;
  previous = none_marks words k m.tams.previous m.bitmaps.previous;
  next = none_marks words k m.tams.next m.bitmaps.next;
}

-- the sets of a run of regions are emptied at once
pub run_emptied : (k m : ℕ) (s s' : Sets) → s'.cards_per_region ≡ s.cards_per_region → length s'.sets ≡ length s.sets
    → ((j : ℕ) → set_of s' j ≡ (if is_between k (k + m) j then emptied (set_of s j) else set_of s j))
    → ((card : ℕ) → has s'.entered card
    ≡ (if is_between k (k + m) (card / s.cards_per_region) then false else has s.entered card)) → HasEmptied k m s s'
run_emptied k m s s' cards count sets entered = record {
  cards = cards;
  count = count;
  cleared = λ j e. sets j ∙ ap (λ (b : Bool). if b then emptied (set_of s j) else set_of s j) e;
  others = λ j e. sets j ∙ ap (λ (b : Bool). if b then emptied (set_of s j) else set_of s j) e;
  entered = entered;
}

pub one_forgotten : (words k i q : ℕ) (m0 m m' : Marker) → 0 < words → HasForgotten words k i m0 m → q ≡ k + i
    → q < length m.tams.previous → q < length m.tams.next
    → length m'.bitmaps.previous ≡ length m.bitmaps.previous → length m'.bitmaps.next ≡ length m.bitmaps.next
    → ((a : ℕ) → is_marked m'.bitmaps.previous a ≡ (if is_in_region words q a then false else is_marked m.bitmaps.previous a))
    → ((a : ℕ) → is_marked m'.bitmaps.next a ≡ (if is_in_region words q a then false else is_marked m.bitmaps.next a))
    → m'.tams ≡ with_bottom m.tams q (q * words)
    → m' ≡ record m { tams = m'.tams; bitmaps = m'.bitmaps; live = m'.live } → HasForgotten words k (i + 1) m0 m'
one_forgotten words k i q m0 m m' z f at known known' len len' previous next tops same = record {
  same = same ∙ ap (λ (x : Marker). record x { tams = m'.tams; bitmaps = m'.bitmaps; live = m'.live }) f.same;
  previous = step_marks (is_between k (k + i)) (is_between k (k + (i + 1))) q (one_between k i q at) words m0.tams.previous m.tams.previous
      m'.tams.previous m0.bitmaps.previous m.bitmaps.previous m'.bitmaps.previous z known (ap (λ (t : Tops). t.previous) tops) len previous
      f.previous;
  next = step_marks (is_between k (k + i)) (is_between k (k + (i + 1))) q (one_between k i q at) words m0.tams.next m.tams.next
      m'.tams.next m0.bitmaps.next m.bitmaps.next m'.bitmaps.next z known' (ap (λ (t : Tops). t.next) tops) len' next f.next;
}
