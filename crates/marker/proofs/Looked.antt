-- The words that are looked at where objects are scanned.
use Rattle.std.proofs.Common.{inl, inr, ◌≡◌, ◌+◌, ◌<◌, ◌≤◌, ◌∙◌, ℕ, zero, suc, Bool, true, false, List, [], length, set, refl, ap}
use Rattle.std.proofs.Common.{subst, arith, if◌then◌else◌, length-set, get_or-set_same, get_or-set_other}
use Rattle.std.proofs.lemmas.Bool.{cases_eq}
use Rattle.regions.specs.Table.{Table}
use Rattle.mark_bitmap.specs.Marks.{is_marked, marked_count, HasNone}
use Rattle.mark_bitmap.specs.Grey.{is_grey}
use Rattle.marker.specs.Counts.{ScanTotals, IsMore, added}
use Rattle.marker.specs.Waiting.{Waiting}
use Rattle.marker.specs.Stands.{MarkerStands}
use Rattle.marker.specs.Steps.{KeepsSnapshots, SameRoles, Grows, ScansMore}
use Rattle.marker.specs.Looks.{LooksUpTo, ScansUpTo, words_of_scan, words_looked, words_scanned}
use Rattle.marker.specs.declared.marker.Marker.{Marker}
use Rattle.marker.proofs.Marking.{HasScanned, one_scanned}
use Rattle.marker.proofs.Scanned.{grey_is}

looked_same : (t : Table) (s s' : List Bool) (n a : ℕ) → ((x : ℕ) → a ≤ x → is_marked s' x ≡ is_marked s x)
    → words_looked t s' a n ≡ words_looked t s a n
looked_same t s s' zero a same = refl
looked_same t s s' (suc n) a same =
    let here = ap (λ (b : Bool). if b then words_of_scan t a else 0) (same a (omega arith)) in
    omega (arith, here, looked_same t s s' n (suc a) (λ x low. same x (omega (arith, low))))

-- an object more is scanned
looked_more : (t : Table) (s : List Bool) (object n a : ℕ) → object < length s → is_marked s object ≡ false → a ≤ object → object < a + n
    → words_looked t (set s object true) a n ≡ words_looked t s a n + words_of_scan t object
looked_more t s object zero a inside un low high = absurd (omega (arith, low, high))
looked_more t s object (suc n) a inside un low high = elim (cases_eq a object) [
  | inl same ↦
      let now : is_marked (set s object true) a ≡ true = ap (is_marked (set s object true)) same
      ∙ get_or-set_same s object true false inside in
      let was : is_marked s a ≡ false = ap (is_marked s) same ∙ un in
      let words : words_of_scan t a ≡ words_of_scan t object = ap (words_of_scan t) same in
      omega (
        arith,
        ap (λ (b : Bool). if b then words_of_scan t a else 0) now,
        ap (λ (b : Bool). if b then words_of_scan t a else 0) was,
        words,
        looked_same t s (set s object true) n (suc a)
            (λ x above. get_or-set_other s object x true false (λ e. omega (arith, e, above, same))),
      )
  | inr other ↦
      let here = get_or-set_other s object a true false other in
      omega (
        arith,
        ap (λ (b : Bool). if b then words_of_scan t a else 0) here,
        looked_more t s object n (suc a) inside un (omega (arith, low, other)) (omega (arith, high)),
      )
]

-- so many words more were looked at
pub record LooksOn (t : Table) (n : ℕ) (m m' : Marker) : Type 0 where
  pub objects : ℕ
  pub scans : HasScanned t m m' objects
  pub count : words_scanned t m' ≡ words_scanned t m + n

-- with all that were left of one object
pub one_looked : (t : Table) (m m' m'' : Marker) (n left object : ℕ) → LooksOn t n m m'
    → is_grey m'.bitmaps.next m'.grey object ≡ true → object < length m'.bitmaps.next
    → MarkerStands t m'' → KeepsSnapshots t m' m'' → m''.grey.scanned ≡ set m'.grey.scanned object true → m''.grey.looked ≡ 0
    → m''.scans ≡ added m'.scans → SameRoles m' m'' → m''.logs ≡ m'.logs → m''.waiting ≡ m'.waiting
    → ((a : ℕ) → is_marked m'.bitmaps.next a ≡ true → is_marked m''.bitmaps.next a ≡ true)
    → left + m'.grey.looked ≡ words_of_scan t object → LooksOn t (n + left) m m''
one_looked t m m' m'' n left object p grey inside st keeps scanned whole counted same logs waiting marked is =
    let un = (grey_is m'.bitmaps.next m'.grey object grey).1 in
    let known : object < length m'.grey.scanned = omega (arith, inside, p.scans.stands.scanned) in
    record {
      objects = p.objects + 1;
      scans = one_scanned t m m' m'' p.objects object p.scans grey inside st keeps scanned counted same logs waiting marked;
      count = omega (
        arith,
        ap (λ (s : List Bool). words_looked t s 0 (length s)) scanned,
        ap (λ (k : ℕ). words_looked t (set m'.grey.scanned object true) 0 k) (length-set m'.grey.scanned object true),
        looked_more t m'.grey.scanned object (length m'.grey.scanned) 0 known un (omega arith) (omega (arith, known)),
        p.count,
        whole,
        is,
      );
    }

-- ---- one call
pub scans_more : (t : Table) (m m' : Marker) (n : ℕ) → marked_count m'.grey.scanned ≡ marked_count m.grey.scanned + n
    → IsMore m.scans m'.scans n → ScansMore m m'
scans_more t m m' n scanned scans = record { count = n; scanned = scanned; scans = scans }

-- after the roots were taken, which leaves what was scanned
pub more_after : (m m' m'' : Marker) → m'.grey.scanned ≡ m.grey.scanned → m'.scans ≡ m.scans → ScansMore m' m'' → ScansMore m m''
more_after m m' m'' scanned scans p = record {
  count = p.count;
  scanned = p.scanned ∙ ap (λ (b : List Bool). marked_count b + p.count) scanned;
  scans = subst (λ (s : ScanTotals). IsMore s m''.scans p.count) scans p.scans;
}

pub grows_after : (m m' m'' : Marker) → m'.grey.scanned ≡ m.grey.scanned
    → ((a : ℕ) → is_marked m.bitmaps.next a ≡ true → is_marked m'.bitmaps.next a ≡ true) → Grows m' m'' → Grows m m''
grows_after m m' m'' scanned marked p = record {
  marked = λ a k. p.marked a (marked a k);
  scanned = λ a k. p.scanned a (ap (λ (b : List Bool). is_marked b a) scanned ∙ k);
}

pub scans_up_to : (k n : ℕ) (m m' m'' : Marker) → m'.grey.scanned ≡ m.grey.scanned → m'.waiting.addresses ≡ [] → m''.waiting ≡ m'.waiting
    → n ≤ k → (n < k → HasNone (is_grey m''.bitmaps.next m''.grey) 0) → marked_count m''.grey.scanned ≡ marked_count m'.grey.scanned + n
    → ScansUpTo k n m m''
scans_up_to k n m m' m'' scanned taken waiting most none count = record {
  count = count ∙ ap (λ (b : List Bool). marked_count b + n) scanned;
  most = most;
  enough = λ less. record { waiting = ap (λ (w : Waiting). w.addresses) waiting ∙ taken; grey = none less };
}

pub looks_up_to : (t : Table) (k left n taken : ℕ) (m m' m'' : Marker) → m'.grey.scanned ≡ m.grey.scanned
    → m'.grey.looked ≡ m.grey.looked → left + taken ≡ k
    → length m.waiting.addresses ≡ length m'.waiting.addresses + taken → (taken < k → m'.waiting.addresses ≡ [])
    → m''.waiting ≡ m'.waiting → words_scanned t m'' ≡ words_scanned t m' + n → n ≤ left
    → (n < left → HasNone (is_grey m''.bitmaps.next m''.grey) 0) → LooksUpTo t k (taken + n) m m''
looks_up_to t k left n taken m m' m'' scanned looked e roots none waiting count most grey = record {
  taken = taken;
  roots = omega (arith, roots, ap (λ (w : Waiting). length w.addresses) waiting);
  count = omega (arith, count, looked, ap (λ (s : List Bool). words_looked t s 0 (length s)) scanned);
  most = omega (arith, most, e);
  enough = λ less. record {
    waiting = ap (λ (w : Waiting). w.addresses) waiting ∙ none (omega (arith, less));
    grey = grey (omega (arith, less, e));
  };
}
