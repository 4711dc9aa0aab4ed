-- A marker just made.
use Rattle.std.proofs.Common.{inl, inr, ◌≡◌, ℕ, ◌*◌, ◌/◌, ◌<◌, Bool, false, List, [], length, get_or, replicate, sym, ap, ◌∙◌, arith}
use Rattle.std.proofs.lemmas.Bool.{cases_lt, le-ltb}
use Rattle.std.proofs.lemmas.List.{get_or-replicate, length-replicate, get_or_past}
use Rattle.std.proofs.lemmas.List.FromFn.{length-map-range_with_len, get_or-map-range_with_len}
use Rattle.regions.specs.Table.{Table}
use Rattle.mark_bitmap.specs.Tops.{Tops, bottoms, is_below, below_previous}
use Rattle.mark_bitmap.specs.Kept.{MarksObjects}
use Rattle.mark_bitmap.proofs.ObjectLaws.{none_marked}
use Rattle.satb_log.specs.Logs.{logged}
use Rattle.satb_log.proofs.Logged.{none_logged}
use Rattle.marker.specs.Stands.{MarkerStands}
use Rattle.marker.specs.Live.{LiveCounts, nothing_counted}
use Rattle.marker.specs.declared.marker.Marker.{Marker}
use Rattle.marker.proofs.LiveCounts.{counts_none}

abbrev none : List ℕ
none = []

none_in : (n : ℕ) → logged (replicate n []) ≡ []
none_in n = none_logged (replicate n [])
    (λ k h. let e : length (replicate n []) ≡ n = length-replicate n none in get_or-replicate n k none none (rw e at h))

bottom_at : (regions words k : ℕ) → k < regions → get_or (bottoms regions words) k 0 ≡ k * words
bottom_at regions words k h = get_or-map-range_with_len (λ n. n * words) 0 regions k k 0 h (omega arith)

-- nothing is marked, and all tops are at the bottoms
new_objects : (t : Table) (regions words : ℕ) (tops : List ℕ) (marks : List Bool) → length t.regions ≡ regions → t.words_per_region ≡ words
    → tops ≡ bottoms regions words → marks ≡ replicate (regions * words) false → MarksObjects t tops marks
new_objects t regions words tops marks count size low none =
    let at : (k : ℕ) → k < length t.regions → get_or tops k 0 ≡ k * t.words_per_region =
    λ k h. ap (λ (l : List ℕ). get_or l k 0) low ∙ bottom_at regions words k (omega (arith, h, count)) ∙ ap (λ n. k * n) (sym size) in
    let unmarked : (a : ℕ) → get_or marks a false ≡ false =
    λ a. ap (λ (l : List Bool). get_or l a false) none ∙ none_marked (regions * words) a in
    record {
      each_region = ap length low ∙ length-map-range_with_len (λ n. n * words) 0 regions ∙ sym count;
      each_word = ap length none ∙ length-replicate (regions * words) false ∙ ap (λ n. n * words) (sym count)
          ∙ ap (λ n. length t.regions * n) (sym size);
      bottom = λ k h. omega (arith, at k h);
      top = λ k h. omega (arith, at k h);
      object = λ a h. absurd (let e = unmarked a in cc);
      below = λ a h. absurd (let e = unmarked a in cc);
    }

pub new_stands : (regions words mutators : ℕ) (m : Marker) → m.running ≡ false
    → m.bitmaps.previous ≡ replicate (regions * words) false → m.bitmaps.next ≡ replicate (regions * words) false
    → m.tams.previous ≡ bottoms regions words → m.tams.next ≡ bottoms regions words
    → m.grey.scanned ≡ replicate (regions * words) false → m.logs ≡ replicate mutators [] → m.live ≡ nothing_counted regions
    → m.waiting.addresses ≡ []
    → (t : Table) → length t.regions ≡ regions → t.words_per_region ≡ words → MarkerStands t m
new_stands regions words mutators m off previous next low high scanned logs none waiting t count size =
    record {
      previous = new_objects t regions words m.tams.previous m.bitmaps.previous count size low previous;
      next = new_objects t regions words m.tams.next m.bitmaps.next count size high next;
      scanned = ap length scanned ∙ sym (ap length next);
      finger = λ on. absurd (let e = off in cc);
      newer = λ on. absurd (let e = off in cc);
      follows = λ on. absurd (let e = off in cc);
      idle = λ _. ap logged logs ∙ none_in mutators;
      none_wait = λ _. waiting;
      scanned_marked = λ on. absurd (let e = off in cc);
      counted = λ on. absurd (let e = off in cc);
      part = λ on. absurd (let e = off in cc);
      live = counts_none t m.bitmaps.previous m.live.previous regions (ap (λ (l : LiveCounts). l.previous) none) (sym count)
          (λ a. ap (λ (b : List Bool). get_or b a false) previous ∙ none_marked (regions * words) a);
      live_next = counts_none t m.bitmaps.next m.live.next regions (ap (λ (l : LiveCounts). l.next) none) (sym count)
          (λ a. ap (λ (b : List Bool). get_or b a false) next ∙ none_marked (regions * words) a);
    }

-- nothing lies below a bottom
pub new_keeps : (regions words : ℕ) (tops : Tops) → tops.previous ≡ bottoms regions words → (t : Table) (a : ℕ)
    → t.words_per_region ≡ words → below_previous t tops a ≡ false
unfolding is_below
new_keeps regions words tops low t a size =
    let k : ℕ = a / t.words_per_region in
    le-ltb a (get_or tops.previous k 0) (elim (cases_lt k regions) [
      | inl known ↦ omega (arith, ap (λ (l : List ℕ). get_or l k 0) low, bottom_at regions words k known, ap (λ n. k * n) size)
      | inr far ↦ omega (
        arith,
        ap (λ (l : List ℕ). get_or l k 0) low,
        get_or_past (bottoms regions words) k 0 (omega (arith, far, length-map-range_with_len (λ n. n * words) 0 regions)),
      )
    ])
