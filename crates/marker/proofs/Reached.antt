-- Marks come, and marks still stand at kept objects.
use Rattle.std.proofs.Common.{◌≡◌, ◌⊎◌, ◌+◌, ◌/◌, ◌^◌, ◌<◌, ◌≤◌, ◌∙◌, inl, inr, ℕ, Bool, true, false, List, [], Option, None, Some, length}
use Rattle.std.proofs.Common.{get_or, set, refl, sym, ap, not, subst, arith, get_or-set_same, get_or-set_other, Contains, slice_get}
use Rattle.std.proofs.lemmas.Bool.{cases_eq, cases_lt}
use Rattle.std.proofs.lemmas.List.{get_or_past}
use Rattle.std.proofs.lemmas.Option.{get_or_from_slice_get, slice_get-get_or, slice_get_within}
use Rattle.root_table.specs.Roots.{AreNil, IsNextNamed}
use Rattle.heap_model.specs.Clearing.{CanBeFollowed}
use Rattle.regions.specs.Table.{Table, object_words, pointers_at}
use Rattle.regions.specs.Shaped.{IsShaped}
use Rattle.mark_bitmap.specs.Marks.{is_marked, marked_count}
use Rattle.mark_bitmap.specs.Tops.{Tops, below_next, AreNewer}
use Rattle.mark_bitmap.specs.Grey.{Scans, HasFingers, KeepsPlace}
use Rattle.mark_bitmap.specs.Kept.{MarksObjects}
use Rattle.mark_bitmap.proofs.ObjectLaws.{set_objects, within}
use Rattle.mark_bitmap.proofs.Ranges.{div_is, lies_below}
use Rattle.marker.specs.Views.{untaken}
use Rattle.marker.specs.Stands.{MarkerStands, IsKept}
use Rattle.marker.specs.Live.{LiveCounts, CountsWords, with_more}
use Rattle.marker.specs.Roots.{IsInFirst, IsInSpan}
use Rattle.marker.specs.Steps.{SameRoles, MarksWanted}
use Rattle.marker.specs.declared.marker.Marker.{Marker}
use Rattle.marker.proofs.Views.{same_heap, kept_object, same_kept}
use Rattle.marker.proofs.LiveCounts.{counts_added, region_small}
use Rattle.marker.proofs.Done.{part_same, place_trans}

-- more is marked, and logs and the roots that wait may lose addresses: marks stand, if what came is kept
pub stands_step : (t : Table) (m m' : Marker) → MarkerStands t m → m.running ≡ true → SameRoles m m'
    → length m'.grey.scanned ≡ length m.grey.scanned → length m'.logs ≡ length m.logs
    → ((a : ℕ) → Contains (untaken m') a → Contains (untaken m) a)
    → MarksObjects t m.tams.next m'.bitmaps.next → HasFingers m'.bitmaps.next m'.grey
    → ((a : ℕ) → is_marked m'.bitmaps.next a ≡ true → (is_marked m.bitmaps.next a ≡ true) ⊎ IsKept t m a)
    → ((a : ℕ) → is_marked m'.grey.scanned a ≡ true → is_marked m'.bitmaps.next a ≡ true) → m'.scans.since ≡ marked_count m'.grey.scanned
    → m'.live.previous ≡ m.live.previous → CountsWords t m'.bitmaps.next m'.live.next
    → ((a : ℕ) → m'.grey.held ≡ Some a → m'.grey.looked ≤ length (pointers_at t a)) → MarkerStands t m'
stands_step t m m' st run same scanned len logs next finger came scanned_marked counted before now part =
    let f = st.follows run in
    let tams : m.tams ≡ m'.tams = sym same.tams in
    let kept : (a : ℕ) → IsKept t m a → IsKept t m' a = λ a. same_kept t m m' a same in
    record {
      previous = subst (λ (b : List Bool). MarksObjects t m'.tams.previous b) (sym same.previous)
          (subst (λ (x : Tops). MarksObjects t x.previous m.bitmaps.previous) tams st.previous);
      next = subst (λ (x : Tops). MarksObjects t x.next m'.bitmaps.next) tams next;
      scanned = scanned ∙ st.scanned ∙ st.next.each_word ∙ sym next.each_word;
      finger = λ _. finger;
      newer = λ _. subst AreNewer tams (st.newer run);
      follows = λ _. record {
        closed = subst CanBeFollowed (sym (same_heap t [] m m' same)) f.closed;
        marked = λ a k. kept a (elim (came a k) [ inl old ↦ f.marked a old | inr new ↦ new ]);
        logged_kept = λ a l. kept a (f.logged_kept a (logs a l));
        logged_below = λ a l. subst (λ (x : Tops). below_next t x a ≡ true) tams (f.logged_below a (logs a l));
      };
      idle = λ off. absurd (let e = same.running in cc);
      none_wait = λ off. absurd (let e = same.running in cc);
      scanned_marked = λ _. scanned_marked;
      counted = λ _. counted;
      part = λ _. part;
      live = subst (λ (b : List Bool). CountsWords t b m'.live.previous) (sym same.previous)
          (subst (λ (l : List ℕ). CountsWords t m.bitmaps.previous l) (sym before) st.live);
      live_next = now;
    }

pub marked_set : (marks : List Bool) (a b : ℕ) → is_marked (set marks a true) b ≡ true → (is_marked marks b ≡ true) ⊎ (b ≡ a)
marked_set marks a b k = elim (cases_eq b a) [ inl e ↦ inr e | inr e ↦ inl (sym (get_or-set_other marks a b true false e) ∙ k) ]

pub set_stays : (marks : List Bool) (a b : ℕ) → a < length marks → is_marked marks b ≡ true → is_marked (set marks a true) b ≡ true
set_stays marks a b h k = elim (cases_eq b a) [
  | inl e ↦ rw e (get_or-set_same marks a true false h)
  | inr e ↦ get_or-set_other marks a b true false e ∙ k
]

-- a mark more takes none away
pub set_more : (marks : List Bool) (a b : ℕ) → is_marked marks b ≡ true → is_marked (set marks a true) b ≡ true
set_more marks a b k = elim (cases_lt a (length marks)) [
  | inl inside ↦ set_stays marks a b inside k
  | inr past ↦ elim (cases_eq b a) [
    | inl e ↦ absurd (let f : get_or marks b false ≡ false = get_or_past marks b false (omega (arith, past, e)) in let g = k in cc)
    | inr e ↦ get_or-set_other marks a b true false e ∙ k
  ]
]

pub old_within : (t : Table) (m : Marker) (a : ℕ) → 0 < t.words_per_region → MarkerStands t m
    → below_next t m.tams a ≡ true → a < length m.bitmaps.next
old_within t m a z st h = within t m.tams.next m.bitmaps.next a z st.next h

-- what is old lies in a region that is known
old_region : (t : Table) (m : Marker) (a : ℕ) → 0 < t.words_per_region → MarkerStands t m → below_next t m.tams a ≡ true
    → a / t.words_per_region < length t.regions
old_region t m a z st h =
    let below = lies_below t.words_per_region m.tams.next a z h in
    let same = div_is a t.words_per_region below.region below.at_least below.less in
    omega (arith, below.known, st.next.each_region, same)

-- the marker with other marks, another grey set and other counts
abbrev pub with_next : Marker → List Bool → Scans → LiveCounts → Marker
with_next m n g l = record {
  bitmaps = record { previous = m.bitmaps.previous; next = n };
  tams = m.tams;
  grey = g;
  logs = m.logs;
  running = m.running;
  scans = m.scans;
  live = l;
  waiting = m.waiting;
}

-- the words of what is newly marked are counted
counts_marked : (t : Table) (m : Marker) (a : ℕ) (n : List Bool) (k size : ℕ) → 0 < t.words_per_region → MarkerStands t m
    → below_next t m.tams a ≡ true → is_marked m.bitmaps.next a ≡ false → n ≡ set m.bitmaps.next a true
    → k ≡ a / t.words_per_region → size ≡ object_words t a → CountsWords t n (set m.live.next k (get_or m.live.next k 0 + size))
counts_marked t m a n k size z st below unmarked e own words =
    counts_added t m.bitmaps.next n m.live.next a k size z st.live_next (old_within t m a z st below) unmarked e own
    (omega (arith, own, old_region t m a z st below)) words

-- so the count is one that a number holds
pub mark_fits : (t : Table) (m : Marker) (a k size : ℕ) → IsShaped t → MarkerStands t m → below_next t m.tams a ≡ true
    → is_marked m.bitmaps.next a ≡ false → k ≡ a / t.words_per_region → size ≡ object_words t a
    → (k < length m.live.next) × (get_or m.live.next k 0 + size < 2 ^ 32)
mark_fits t m a k size shape st below unmarked own words =
    let marks : List Bool = set m.bitmaps.next a true in
    let now = counts_marked t m a marks k size shape.positive st below unmarked refl own words in
    let region : k < length t.regions = omega (arith, own, old_region t m a shape.positive st below) in
    let known : k < length m.live.next = omega (arith, region, st.live_next.each_region) in
    let same = get_or-set_same m.live.next k (get_or m.live.next k 0 + size) 0 known in
    (known, omega (arith, same, now.each k region, region_small t marks k shape))

pub set_stands : (t : Table) (m : Marker) (a : ℕ) (n : List Bool) (g : Scans) (l : LiveCounts) (k size : ℕ) → 0 < t.words_per_region
    → MarkerStands t m → m.running ≡ true → below_next t m.tams a ≡ true → IsKept t m a → is_marked m.bitmaps.next a ≡ false
    → n ≡ set m.bitmaps.next a true → g.scanned ≡ m.grey.scanned → KeepsPlace m.grey g → HasFingers n g → l ≡ with_more m.live k size
    → k ≡ a / t.words_per_region → size ≡ object_words t a → MarkerStands t (with_next m n g l)
set_stands t m a n g l k size z st run below kept unmarked e scanned place finger more own words =
    let object = kept_object t m.tams m.bitmaps.previous a kept.object kept.is in
    stands_step t m (with_next m n g l) st run (record { previous = refl; tams = refl; running = refl; room = refl })
    (ap length scanned) refl (λ b l. l)
    (subst (λ (b : List Bool). MarksObjects t m.tams.next b) (sym e)
    (set_objects t m.tams.next m.bitmaps.next a kept.object st.next object below))
    finger
    (λ b h. elim (marked_set m.bitmaps.next a b (ap (λ (l : List Bool). is_marked l b) (sym e) ∙ h)) [
      | inl old ↦ inl old
      | inr same ↦ inr (subst (λ (x : ℕ). IsKept t m x) (sym same) kept)
    ])
    (λ b h. ap (λ (l : List Bool). is_marked l b) e
    ∙ set_more m.bitmaps.next a b (st.scanned_marked run b (ap (λ (l : List Bool). is_marked l b) (sym scanned) ∙ h)))
    (st.counted run ∙ ap marked_count (sym scanned))
    (ap (λ (x : LiveCounts). x.previous) more)
    (subst (λ (x : LiveCounts). CountsWords t n x.next) (sym more) (counts_marked t m a n k size z st below unmarked e own words))
    (part_same t m (with_next m n g l) place (st.part run))

pub set_marks_at : (t : Table) (m : Marker) (a : ℕ) (n : List Bool) (g : Scans) (l : LiveCounts)
    → a < length m.bitmaps.next → n ≡ set m.bitmaps.next a true → MarksWanted t (λ b. a ≡ b) m (with_next m n g l)
set_marks_at t m a n g l h e =
    let now : (b : ℕ) → is_marked n b ≡ is_marked (set m.bitmaps.next a true) b = λ b. ap (λ (l : List Bool). is_marked l b) e in
    record {
      stays = λ b k. now b ∙ set_stays m.bitmaps.next a b h k;
      only = λ b k. elim (marked_set m.bitmaps.next a b (sym (now b) ∙ k)) [ inl old ↦ inl old | inr same ↦ inr (sym same) ];
      each = λ b w _. now b ∙ rw (sym w) (get_or-set_same m.bitmaps.next a true false h);
    }

-- what is wanted is what a pointer leads to
pub wanted_as : (t : Table) (m m' : Marker) (a : ℕ) (target : Option ℕ) → target ≡ Some a → MarksWanted t (λ b. a ≡ b) m m'
    → MarksWanted t (λ b. target ≡ Some b) m m'
wanted_as t m m' a target is w = record {
  stays = w.stays;
  only = λ b k. elim (w.only b k) [ inl old ↦ inl old | inr same ↦ inr (is ∙ ap Some same) ];
  each = λ b e below. w.each b (let same : a ≡ b = cc in same) below;
}

-- the wanted addresses that are old are marked, and nothing else has changed but the fingers
pub record Reached (t : Table) (wanted : ℕ → Type 0) (m m' : Marker) : Type 0 where
  pub stands : MarkerStands t m'
  pub marks : MarksWanted t wanted m m'
  pub same : SameRoles m m'
  pub scanned : m'.grey.scanned ≡ m.grey.scanned
  pub place : KeepsPlace m.grey m'.grey
  pub scans : m'.scans ≡ m.scans
  pub logs : m'.logs ≡ m.logs
  pub waiting : m'.waiting ≡ m.waiting

pub same_trans : (m m' m'' : Marker) → SameRoles m m' → SameRoles m' m'' → SameRoles m m''
same_trans m m' m'' p q = record {
  previous = q.previous ∙ p.previous;
  tams = q.tams ∙ p.tams;
  running = q.running ∙ p.running;
  room = q.room ∙ p.room;
}

pub more_reached : (t : Table) (first then both : ℕ → Type 0) (m m' m'' : Marker)
    → ((a : ℕ) → both a → first a ⊎ then a) → ((a : ℕ) → first a → both a) → ((a : ℕ) → then a → both a)
    → Reached t first m m' → Reached t then m' m'' → Reached t both m m''
more_reached t first then both m m' m'' split left right p q = record {
  stands = q.stands;
  marks = record {
    stays = λ a k. q.marks.stays a (p.marks.stays a k);
    only = λ a k. elim (q.marks.only a k) [
      | inr w ↦ inr (right a w)
      | inl k' ↦ elim (p.marks.only a k') [ inl old ↦ inl old | inr w ↦ inr (left a w) ]
    ];
    each = λ a w below. elim (split a w) [
      | inl w' ↦ q.marks.stays a (p.marks.each a w' below)
      | inr w' ↦ q.marks.each a w' (subst (λ (x : Tops). below_next t x a ≡ true) (sym p.same.tams) below)
    ];
  };
  same = same_trans m m' m'' p.same q.same;
  scanned = q.scanned ∙ p.scanned;
  place = place_trans m.grey m'.grey m''.grey p.place q.place;
  scans = q.scans ∙ p.scans;
  logs = q.logs ∙ p.logs;
  waiting = q.waiting ∙ p.waiting;
}

-- one word more
pub among_split : (words : List (Option ℕ)) (n a : ℕ) (w : Option ℕ) → slice_get words n ≡ Some w
    → IsInFirst words (n + 1) a → IsInFirst words n a ⊎ (w ≡ Some a)
among_split words n a w e i =
    elim (cases_eq i.place n) [
      | inl same ↦ inr (let f : slice_get words n ≡ Some (Some a) = ap (slice_get words) (sym same) ∙ i.is in cc)
      | inr other ↦ inl (record { place = i.place; front = omega (arith, i.front, other); is = i.is })
    ]

pub among_left : (words : List (Option ℕ)) (n a : ℕ) → IsInFirst words n a → IsInFirst words (n + 1) a
among_left words n a i = record { place = i.place; front = omega (arith, i.front); is = i.is }

pub among_right : (words : List (Option ℕ)) (n a : ℕ) (w : Option ℕ) → slice_get words n ≡ Some w → w ≡ Some a → IsInFirst words (n + 1) a
among_right words n a w e f = record { place = n; front = omega arith; is = e ∙ ap Some f }

pub among_more : (t : Table) (words : List (Option ℕ)) (n : ℕ) (w : Option ℕ) (m m' m'' : Marker) → slice_get words n ≡ Some w
    → Reached t (IsInFirst words n) m m' → Reached t (λ a. w ≡ Some a) m' m'' → Reached t (IsInFirst words (n + 1)) m m''
among_more t words n w m m' m'' e p q =
    more_reached t (IsInFirst words n) (λ a. w ≡ Some a) (IsInFirst words (n + 1)) m m' m''
    (λ a i. among_split words n a w e i) (λ a i. among_left words n a i) (λ a f. among_right words n a w e f) p q

-- of the words from one on
span_split : (words : List (Option ℕ)) (from n a : ℕ) (w : Option ℕ) → slice_get words n ≡ Some w
    → IsInSpan words from (n + 1) a → IsInSpan words from n a ⊎ (w ≡ Some a)
span_split words from n a w e i =
    elim (cases_eq i.place n) [
      | inl same ↦ inr (let f : slice_get words n ≡ Some (Some a) = ap (slice_get words) (sym same) ∙ i.is in cc)
      | inr other ↦ inl (record { place = i.place; from_on = i.from_on; before = omega (arith, i.before, other); is = i.is })
    ]

pub span_more : (t : Table) (words : List (Option ℕ)) (from n : ℕ) (w : Option ℕ) (m m' m'' : Marker) → from ≤ n
    → slice_get words n ≡ Some w → Reached t (IsInSpan words from n) m m' → Reached t (λ a. w ≡ Some a) m' m''
    → Reached t (IsInSpan words from (n + 1)) m m''
span_more t words from n w m m' m'' low e p q =
    more_reached t (IsInSpan words from n) (λ a. w ≡ Some a) (IsInSpan words from (n + 1)) m m' m''
    (λ a i. span_split words from n a w e i)
    (λ a i. record { place = i.place; from_on = i.from_on; before = omega (arith, i.before); is = i.is })
    (λ a f. record { place = n; from_on = low; before = omega arith; is = e ∙ ap Some f }) p q

-- ---- roots, of which those that hold nil are passed over
-- what is wanted may be said otherwise
pub reached_as : (t : Table) (wanted other : ℕ → Type 0) (m m' : Marker) → ((a : ℕ) → wanted a → other a) → ((a : ℕ) → other a → wanted a)
    → Reached t wanted m m' → Reached t other m m'
reached_as t wanted other m m' to from r = record {
  stands = r.stands;
  marks = record {
    stays = r.marks.stays;
    only = λ a k. elim (r.marks.only a k) [ inl was ↦ inl was | inr w ↦ inr (to a w) ];
    each = λ a o. r.marks.each a (from a o);
  };
  same = r.same;
  scanned = r.scanned;
  place = r.place;
  scans = r.scans;
  logs = r.logs;
  waiting = r.waiting;
}

pub among_wider : (words : List (Option ℕ)) (n k a : ℕ) → n ≤ k → IsInFirst words n a → IsInFirst words k a
among_wider words n k a le i = record { place = i.place; front = omega (arith, le, i.front); is = i.is }

pub among_same : (words : List (Option ℕ)) (n k a : ℕ) → AreNil words n k → IsInFirst words k a → IsInFirst words n a
among_same words n k a nil i = elim (cases_lt i.place n) [
  | inl less ↦ record { place = i.place; front = less; is = i.is }
  | inr more ↦ absurd (let none = nil i.place more i.front in let some = get_or_from_slice_get words i.place (Some a) None i.is in cc)
]

-- up to a place further on, where only nil stands between
pub among_past : (t : Table) (words : List (Option ℕ)) (n k : ℕ) (m m' : Marker) → n ≤ k → AreNil words n k
    → Reached t (IsInFirst words n) m m' → Reached t (IsInFirst words k) m m'
among_past t words n k m m' le nil r =
    reached_as t (IsInFirst words n) (IsInFirst words k) m m' (λ a. among_wider words n k a le) (λ a. among_same words n k a nil) r

-- up to the last place, where only nil is after
pub all_named : (t : Table) (words : List (Option ℕ)) (n : ℕ) (m m' : Marker) → AreNil words n (length words)
    → Reached t (IsInFirst words n) m m' → Reached t (IsInFirst words (length words)) m m'
all_named t words n m m' nil r = elim (cases_lt n (length words)) [
  | inl less ↦ among_past t words n (length words) m m' (omega (arith, less)) nil r
  | inr more ↦ reached_as t (IsInFirst words n) (IsInFirst words (length words)) m m'
      (λ a i. record { place = i.place; front = slice_get_within words i.place (Some a) i.is; is = i.is })
      (λ a. among_wider words (length words) n a more) r
]

-- the word that stands in the next place that is named
pub named_word : (words : List (Option ℕ)) (from place : ℕ) (w : Option ℕ) → IsNextNamed words from place
    → w ≡ get_or words place None → slice_get words place ≡ Some w
named_word words from place w n e = elim (cases_lt place (length words)) [
  | inl within ↦ slice_get-get_or words place None within ∙ ap Some (sym e)
  | inr past ↦ absurd (let none : get_or words place None ≡ None = get_or_past words place None past in let some = n.holds in cc)
]

-- all up to the next place that is named were reached, and then what it names
pub among_next : (t : Table) (words : List (Option ℕ)) (from place : ℕ) (w : Option ℕ) (m m' m'' : Marker)
    → IsNextNamed words from place → w ≡ get_or words place None
    → Reached t (IsInFirst words from) m m' → Reached t (λ a. w ≡ Some a) m' m'' → Reached t (IsInFirst words (place + 1)) m m''
among_next t words from place w m m' m'' n e p q =
    among_more t words place w m m' m'' (named_word words from place w n e) (among_past t words from place m m' n.from_on n.nil_before p) q

-- what is marked is reached already: the marks are the same
pub same_stands : (t : Table) (m : Marker) (n : List Bool) → n ≡ m.bitmaps.next → MarkerStands t m
    → MarkerStands t (with_next m n m.grey m.live)
same_stands t m n e st = subst (λ (l : List Bool). MarkerStands t (with_next m l m.grey m.live)) (sym e) st

pub same_marks : (t : Table) (m : Marker) (a : ℕ) (n : List Bool) → n ≡ m.bitmaps.next → is_marked m.bitmaps.next a ≡ true
    → MarksWanted t (λ b. a ≡ b) m (with_next m n m.grey m.live)
same_marks t m a n e marked =
    let now : (b : ℕ) → is_marked n b ≡ is_marked m.bitmaps.next b = λ b. ap (λ (l : List Bool). is_marked l b) e in
    record {
      stays = λ b k. now b ∙ k;
      only = λ b k. inl (sym (now b) ∙ k);
      each = λ b w _. now b ∙ ap (is_marked m.bitmaps.next) (sym w) ∙ marked;
    }

-- what came wasn't there, and what didn't was
pub was_marked : (marks : List Bool) (a : ℕ) (came : Bool) → came ≡ not (is_marked marks a) → came ≡ false → is_marked marks a ≡ true
was_marked marks a came e f = not_false (is_marked marks a) (sym e ∙ f)
  where
    not_false : (b : Bool) → not b ≡ false → b ≡ true
    not_false true g = refl
    not_false false g = cc

pub was_unmarked : (marks : List Bool) (a : ℕ) (came : Bool) → came ≡ not (is_marked marks a) → came ≡ true → is_marked marks a ≡ false
was_unmarked marks a came e f = not_true (is_marked marks a) (sym e ∙ f)
  where
    not_true : (b : Bool) → not b ≡ true → b ≡ false
    not_true true g = cc
    not_true false g = refl
