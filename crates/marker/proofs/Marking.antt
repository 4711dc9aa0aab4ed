-- Scans one after another.
use Rattle.std.proofs.Common.{inl, inr, ◌≡◌, ℕ, ◌+◌, ◌<◌, Bool, true, false, List, length, set, refl, sym, ap, ◌∙◌, subst, arith}
use Rattle.std.proofs.lemmas.Bool.{cases_eq, cases_lt}
use Rattle.std.proofs.lemmas.List.{get_or-set_same, get_or-set_other, get_or_past}
use Rattle.heap_model.specs.Heap.{Heap}
use Rattle.heap_model.specs.Clearing.{WillShow}
use Rattle.regions.specs.Table.{Table}
use Rattle.mark_bitmap.specs.Marks.{is_marked, marked_count}
use Rattle.mark_bitmap.specs.Grey.{is_grey}
use Rattle.mark_bitmap.proofs.Counts.{marked_count-set}
use Rattle.marker.specs.Counts.{ScanTotals, IsMore, added}
use Rattle.marker.specs.Stands.{MarkerStands}
use Rattle.marker.specs.Steps.{KeepsSnapshots, SameRoles, Grows}
use Rattle.marker.specs.declared.marker.Marker.{Marker}
use Rattle.marker.proofs.Views.{same_heap}
use Rattle.marker.proofs.Reached.{same_trans}
use Rattle.marker.proofs.Scanned.{grey_is}

-- n objects were scanned
pub record HasScanned (t : Table) (m m' : Marker) (n : ℕ) : Type 0 where
  pub stands : MarkerStands t m'
  pub running : m'.running ≡ true
  pub snapshots : KeepsSnapshots t m m'
  pub count : marked_count m'.grey.scanned ≡ marked_count m.grey.scanned + n
  pub scans : IsMore m.scans m'.scans n
  pub same : SameRoles m m'
  pub logs : m'.logs ≡ m.logs
  pub waiting : m'.waiting ≡ m.waiting
  pub grows : Grows m m'

pub snapshots_trans : (t : Table) (m m' m'' : Marker) → SameRoles m m' → KeepsSnapshots t m m'
    → KeepsSnapshots t m' m'' → KeepsSnapshots t m m''
snapshots_trans t m m' m'' same p q = λ s g roots shows keeps.
    q s g roots (subst (λ (h : Heap). WillShow g h) (sym (same_heap t roots m m' same)) shows) (p s g roots shows keeps)

more_one : (s s' s'' : ScanTotals) (n : ℕ) → IsMore s s' n → s'' ≡ added s' → IsMore s s'' (n + 1)
more_one s s' s'' n p is = record {
  since = ap (λ (x : ScanTotals). x.since) is ∙ ap (λ (k : ℕ). k + 1) p.since
      ∙ (let same : s.since + n + 1 ≡ s.since + (n + 1) = omega arith in same);
  total = (let now = ap (λ (x : ScanTotals). x.total) is in omega (arith, now, p.total));
}

-- a mark more
more_marked : (b : List Bool) (n a : ℕ) → is_marked b a ≡ true → is_marked (set b n true) a ≡ true
more_marked b n a k = elim (cases_eq a n) [
  | inl q ↦ subst (λ (i : ℕ). is_marked (set b n true) i ≡ true) (sym q) (there b n (subst (λ (i : ℕ). is_marked b i ≡ true) q k))
  | inr ne ↦ get_or-set_other b n a true false ne ∙ k
]
  where
    there : (b : List Bool) (n : ℕ) → is_marked b n ≡ true → is_marked (set b n true) n ≡ true
    there b n k = elim (cases_lt n (length b)) [
      | inl lt ↦ get_or-set_same b n true false lt
      | inr past ↦ absurd (let none = get_or_past b n false past in cc)
    ]

-- none was scanned
pub none_scanned : (t : Table) (m : Marker) → MarkerStands t m → m.running ≡ true → HasScanned t m m 0
none_scanned t m st run = record {
  stands = st;
  running = run;
  snapshots = λ s g roots shows keeps. keeps;
  count = omega arith;
  scans = record { since = omega arith; total = omega arith };
  same = record { previous = refl; tams = refl; running = refl; room = refl };
  logs = refl;
  waiting = refl;
  grows = record { marked = λ a k. k; scanned = λ a k. k };
}

-- one object more
pub one_scanned : (t : Table) (m m' m'' : Marker) (n object : ℕ) → HasScanned t m m' n
    → is_grey m'.bitmaps.next m'.grey object ≡ true → object < length m'.bitmaps.next
    → MarkerStands t m'' → KeepsSnapshots t m' m'' → m''.grey.scanned ≡ set m'.grey.scanned object true
    → m''.scans ≡ added m'.scans → SameRoles m' m'' → m''.logs ≡ m'.logs → m''.waiting ≡ m'.waiting
    → ((a : ℕ) → is_marked m'.bitmaps.next a ≡ true → is_marked m''.bitmaps.next a ≡ true) → HasScanned t m m'' (n + 1)
one_scanned t m m' m'' n object p grey inside st keeps scanned counted same logs waiting marked =
    let is = grey_is m'.bitmaps.next m'.grey object grey in
    record {
      stands = st;
      running = same.running ∙ p.running;
      snapshots = snapshots_trans t m m' m'' p.same p.snapshots keeps;
      count = omega (
        arith,
        ap marked_count scanned,
        marked_count-set m'.grey.scanned object (omega (arith, inside, p.stands.scanned)) is.1,
        p.count,
      );
      scans = more_one m.scans m'.scans m''.scans n p.scans counted;
      same = same_trans m m' m'' p.same same;
      logs = logs ∙ p.logs;
      waiting = waiting ∙ p.waiting;
      grows = record {
        marked = λ a k. marked a (p.grows.marked a k);
        scanned = λ a k. ap (λ (b : List Bool). is_marked b a) scanned ∙ more_marked m'.grey.scanned object a (p.grows.scanned a k);
      };
    }
