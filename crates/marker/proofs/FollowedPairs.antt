-- Pairs are followed: what is held for marked keys is marked, pass after pass, until a pass marks nothing.
use Rattle.std.proofs.Common.{◌≡◌, ◌+◌, ◌-◌, ◌^◌, ◌<◌, ◌≤◌, ◌==◌, ◌∷◌, ◌∙◌, not, ℕ, zero, suc, Bool, true, false, List, [], length}
use Rattle.std.proofs.Common.{Option, Some, None}
use Rattle.std.proofs.Common.{inl, inr, refl, sym, ap, subst, arith, slice_get, IsSome, if◌then◌else◌, Contains}
use Rattle.std.specs.Prelude.{IfSome}
use Rattle.std.proofs.lemmas.Bool.{cases_eq, cases_lt}
use Rattle.std.proofs.lemmas.Option.{slice_get_within}
use Rattle.std.proofs.lemmas.List.Sums.{sum_by-cons, count_by-le-length}
use Rattle.heap_model.specs.Graph.{IsPair}
use Rattle.heap_model.specs.Heap.{Holds}
use Rattle.heap_model.specs.Clearing.{IsPassed}
use Rattle.heap_model.specs.Marking.{MarksMore, IsHeldTarget}
use Rattle.heap_words.specs.Configs.{max_words}
use Rattle.regions.specs.Tiles.{Object}
use Rattle.regions.specs.Table.{Table, object_at, tile_in, weaks_at, held_at}
use Rattle.regions.specs.Shaped.{IsShaped, AreBare}
use Rattle.regions.specs.WeakStarts.{HasWeaks, IsNextWithWeaks}
use Rattle.regions.proofs.Tiles.Laws.{object_tile}
use Rattle.regions.proofs.Words.Access.{has_weak}
use Rattle.regions.proofs.Words.HeldSlots.{has_held, has_parts}
use Rattle.mark_bitmap.specs.Marks.{is_marked, marked_count, HasNone}
use Rattle.mark_bitmap.specs.Tops.{Tops, below_next}
use Rattle.mark_bitmap.specs.Grey.{KeepsPlace, is_grey, done_in}
use Rattle.marker.specs.Counts.{ScanTotals, IsMore}
use Rattle.marker.specs.Views.{heap_of, marking_of}
use Rattle.marker.specs.Stands.{MarkerStands, IsKept}
use Rattle.marker.specs.Steps.{KeepsSnapshots, SameRoles, MarksWanted, Grows, ScansMore}
use Rattle.marker.specs.Pairs.{IsMarkedKey, FollowsSlot, FollowsHeld, FollowsPairs, HasFollowedPairs}
use Rattle.marker.specs.declared.marker.Marker.{Marker}
use Rattle.marker.proofs.Views.{kept_object, same_untaken}
use Rattle.marker.proofs.Reached.{same_trans}
use Rattle.marker.proofs.Done.{none_newly, done_same, is_same, is_other}
use Rattle.marker.proofs.Scanned.{same_snapshots}
use Rattle.marker.proofs.Marking.{HasScanned, none_scanned, snapshots_trans}
use Rattle.marker.proofs.Ended.{few_scans, all_scanned}
use Rattle.marker.proofs.HeldSlots.{weaks_are, held_are}

-- a held slot has a key
pub key_there : (t : Table) (x i : ℕ) → IsShaped t → i < length (held_at t x) → i < length (weaks_at t x)
key_there t x i shape less =
    let p = has_parts t x (has_held t x i less) in
    let held = ap (λ (l : List (Option ℕ)). length l) p.held in
    let weaks = ap (λ (l : List (Option ℕ)). length l) p.weaks in
    elim (shape.paired x p.object p.is) [
      | inl none ↦ absurd (omega (arith, less, held, ap (λ (l : List (Option ℕ)). length l) none))
      | inr same ↦ omega (arith, less, held, weaks, same)
    ]

pub key_of : (marks : List Bool) (key : Option ℕ) → IsMarkedKey marks key → (k : ℕ) × (key ≡ Some k) × (is_marked marks k ≡ true)
key_of marks None h = absurd h
key_of marks (Some k) h = (k, refl, h)

-- ---- one slot, whose key is marked
module _ (t : Table) (m : Marker) (object slot k : ℕ) (target : Option ℕ) (st : MarkerStands t m) (run : m.running ≡ true)
    (marked : is_marked m.bitmaps.next object ≡ true) (key : is_marked m.bitmaps.next k ≡ true)
    (weak : slice_get (weaks_at t object) slot ≡ Some (Some k)) (held : slice_get (held_at t object) slot ≡ Some target) where
  kept : IsKept t m object
  kept = (st.follows run).marked object marked

  key_kept : IsKept t m k
  key_kept = (st.follows run).marked k key

  there : object_at t object ≡ Some kept.object
  there = kept_object t m.tams m.bitmaps.previous object kept.object kept.is

  holds : (roots : List (Option ℕ)) (b : ℕ) → target ≡ Some b → Holds (heap_of t roots m) object k b
  holds roots b e = record {
    object = kept.object;
    at = kept.is;
    slot = slot;
    is = (
      ap (λ (l : List (Option ℕ)). slice_get l slot) (sym (weaks_are t object kept.object there)) ∙ weak,
      ap (λ (l : List (Option ℕ)). slice_get l slot) (sym (held_are t object kept.object there)) ∙ held ∙ ap Some e,
    );
    key = key_kept.object;
    key_at = key_kept.is;
  }

  -- what it holds is kept
  pub held_kept : (b : ℕ) → target ≡ Some b → IsKept t m b
  held_kept b e =
      let found = (st.follows run).closed.held object k b (holds [] b e) in
      record { object = found.0; is = found.1 }

  module _ (m' : Marker) (st' : MarkerStands t m') (marks : MarksWanted t (λ b. target ≡ Some b) m m') (same : SameRoles m m')
      (scanned : m'.grey.scanned ≡ m.grey.scanned) (place : KeepsPlace m.grey m'.grey) (logs : m'.logs ≡ m.logs)
      (waiting : m'.waiting ≡ m.waiting) where
    held_target : (roots : List (Option ℕ)) (b : ℕ) → target ≡ Some b → is_marked m'.bitmaps.next b ≡ true
        → IsHeldTarget (heap_of t roots m) (marking_of t m) b
    held_target roots b e now = record {
      from = object;
      key = k;
      from_marked = marked;
      key_marked = key;
      holds = holds roots b e;
      old = ap (λ (x : Tops). below_next t x b) (sym same.tams) ∙ st'.next.below b now;
    }

    held_more : (roots : List (Option ℕ)) → MarksMore (heap_of t roots m) (marking_of t m) (marking_of t m')
    held_more roots = record {
      old = λ a. ap (λ (x : Tops). below_next t x a) same.tams;
      marked = marks.stays;
      newly_marked = λ a now. elim (marks.only a now) [ inl was ↦ inl was | inr e ↦ inr (inr (inr (held_target roots a e now))) ];
      newly_scanned = λ a now. inl (ap (λ (b : List Bool). is_marked b a) (sym scanned) ∙ now);
      newly_done = λ a b p now _. absurd (none_newly (heap_of t roots m) (marking_of t m) (done_in m'.grey)
          (done_same m.grey m'.grey place) a b p now);
      taken = λ a l. inr (subst (λ (xs : List ℕ). Contains xs a) (sym (same_untaken m m' waiting logs)) l);
      logged = λ a l. subst (λ (xs : List ℕ). Contains xs a) (same_untaken m m' waiting logs) l;
    }

    pub held_keeps : KeepsSnapshots t m m'
    held_keeps = same_snapshots t m m' same held_more

pub slot_followed : (t : Table) (m m' : Marker) (object slot : ℕ) (target : Option ℕ) → slice_get (held_at t object) slot ≡ Some target
    → MarksWanted t (λ b. target ≡ Some b) m m' → FollowsSlot t m m' object slot
slot_followed t m m' object slot target held marks k b pair _ below =
    marks.each b (let e : Some target ≡ Some (Some b) = sym held ∙ pair.1 in let is : target ≡ Some b = cc in is) below

-- a slot whose key isn't marked holds nothing yet
pub slot_waits : (t : Table) (m m' : Marker) (object slot : ℕ) (key : Option ℕ) → slice_get (weaks_at t object) slot ≡ Some key
    → (IsMarkedKey m.bitmaps.next key → ⊥) → FollowsSlot t m m' object slot
slot_waits t m m' object slot key weak un k b pair marked _ =
    let e : Some key ≡ Some (Some k) = sym weak ∙ pair.0 in
    let is : key ≡ Some k = cc in
    absurd (un (subst (λ (o : Option ℕ). IsMarkedKey m.bitmaps.next o) (sym is) marked))

-- ---- one slot after another
pub record FollowsFirst (t : Table) (m m' : Marker) (object n : ℕ) : Type 0 where
  pub stands : MarkerStands t m'
  pub snapshots : KeepsSnapshots t m m'
  pub held : (slot : ℕ) → slot < n → FollowsSlot t m m' object slot
  pub marked : (a : ℕ) → is_marked m.bitmaps.next a ≡ true → is_marked m'.bitmaps.next a ≡ true
  pub same : SameRoles m m'
  pub scanned : m'.grey.scanned ≡ m.grey.scanned
  pub scans : m'.scans ≡ m.scans
  pub logs : m'.logs ≡ m.logs
  pub waiting : m'.waiting ≡ m.waiting

pub follows_none : (t : Table) (m : Marker) (object : ℕ) → MarkerStands t m → FollowsFirst t m m object 0
follows_none t m object st = record {
  stands = st;
  snapshots = λ s g roots shows keeps. keeps;
  held = λ slot less. absurd (omega (arith, less));
  marked = λ a k. k;
  same = record { previous = refl; tams = refl; running = refl; room = refl };
  scanned = refl;
  scans = refl;
  logs = refl;
  waiting = refl;
}

pub follows_more : (t : Table) (m m' m'' : Marker) (object n : ℕ) → FollowsFirst t m m' object n → MarkerStands t m''
    → KeepsSnapshots t m' m'' → FollowsSlot t m' m'' object n
    → ((a : ℕ) → is_marked m'.bitmaps.next a ≡ true → is_marked m''.bitmaps.next a ≡ true) → SameRoles m' m''
    → m''.grey.scanned ≡ m'.grey.scanned → m''.scans ≡ m'.scans → m''.logs ≡ m'.logs → m''.waiting ≡ m'.waiting
    → FollowsFirst t m m'' object (n + 1)
follows_more t m m' m'' object n p st keeps slot_now grows same scanned scans logs waiting = record {
  stands = st;
  snapshots = snapshots_trans t m m' m'' p.same p.snapshots keeps;
  held = λ slot less. elim (cases_lt slot n) [
    | inl before ↦ λ k b pair marked below. grows b (p.held slot before k b pair marked below)
    | inr behind ↦
        let is : slot ≡ n = omega (arith, less, behind) in
        λ k b pair marked below.
        slot_now k b (subst (λ (i : ℕ). IsPair (weaks_at t object) (held_at t object) i k b) is pair) (p.marked k marked)
        (ap (λ (x : Tops). below_next t x b) p.same.tams ∙ below)
  ];
  marked = λ a k. grows a (p.marked a k);
  same = same_trans m m' m'' p.same same;
  scanned = scanned ∙ p.scanned;
  scans = scans ∙ p.scans;
  logs = logs ∙ p.logs;
  waiting = waiting ∙ p.waiting;
}

pub follows_all : (t : Table) (m m' : Marker) (object n : ℕ) → length (held_at t object) ≤ n → FollowsFirst t m m' object n
    → FollowsHeld t m m' object
follows_all t m m' object n all p slot k b pair marked below =
    p.held slot (let inside = slice_get_within (held_at t object) slot (Some b) pair.1 in omega (arith, all, inside)) k b pair marked below

-- ---- scans and passes one after another
more_trans : (s s' s'' : ScanTotals) (n k : ℕ) → IsMore s s' n → IsMore s' s'' k → IsMore s s'' (n + k)
more_trans s s' s'' n k p q = record {
  since = omega (arith, p.since, q.since);
  total = omega (arith, p.total, q.total);
}

pub scanned_trans : (t : Table) (m m' m'' : Marker) (n : ℕ) → HasScanned t m m' n → MarkerStands t m'' → KeepsSnapshots t m' m''
    → SameRoles m' m'' → m''.logs ≡ m'.logs → m''.waiting ≡ m'.waiting → Grows m' m'' → (w : ScansMore m' m'')
    → HasScanned t m m'' (n + w.count)
scanned_trans t m m' m'' n p st keeps same logs waiting grows w = record {
  stands = st;
  running = same.running ∙ p.running;
  snapshots = snapshots_trans t m m' m'' p.same p.snapshots keeps;
  count = omega (arith, p.count, w.scanned);
  scans = more_trans m.scans m'.scans m''.scans n w.count p.scans w.scans;
  same = same_trans m m' m'' p.same same;
  logs = logs ∙ p.logs;
  waiting = waiting ∙ p.waiting;
  grows = record { marked = λ a k. grows.marked a (p.grows.marked a k); scanned = λ a k. grows.scanned a (p.grows.scanned a k) };
}

-- after held slots were followed, what is grey is scanned
pub grows_on : (m m' m'' : Marker) → m'.grey.scanned ≡ m.grey.scanned
    → ((a : ℕ) → is_marked m.bitmaps.next a ≡ true → is_marked m'.bitmaps.next a ≡ true) → Grows m' m'' → Grows m m''
grows_on m m' m'' scanned marked p = record {
  marked = λ a k. p.marked a (marked a k);
  scanned = λ a k. p.scanned a (ap (λ (b : List Bool). is_marked b a) scanned ∙ k);
}

pub work_on : (m m' m'' : Marker) (n : ℕ) → m'.grey.scanned ≡ m.grey.scanned → m'.scans ≡ m.scans
    → marked_count m''.grey.scanned ≡ marked_count m'.grey.scanned + n → IsMore m'.scans m''.scans n → ScansMore m m''
work_on m m' m'' n scanned scans count more = record {
  count = n;
  scanned = count ∙ ap (λ (b : List Bool). marked_count b + n) scanned;
  scans = subst (λ (s : ScanTotals). IsMore s m''.scans n) scans more;
}

pub held_later : (t : Table) (m m' m'' : Marker) (object : ℕ) → FollowsHeld t m m' object
    → ((a : ℕ) → is_marked m'.bitmaps.next a ≡ true → is_marked m''.bitmaps.next a ≡ true) → FollowsHeld t m m'' object
held_later t m m' m'' object p grows slot k b pair marked below = grows b (p slot k b pair marked below)

pub none_grey : (t : Table) (m m' : Marker) (n : ℕ) → IsShaped t → MarkerStands t m'
    → marked_count m'.grey.scanned ≡ marked_count m.grey.scanned + n → (n < 2 ^ 32 - 1 → HasNone (is_grey m'.bitmaps.next m'.grey) 0)
    → HasNone (is_grey m'.bitmaps.next m'.grey) 0
none_grey t m m' n shape st count none = none (few_scans t m m' n shape st count)

-- ---- one pass
-- the objects before a place were followed, or all of them
pub record IsPass (t : Table) (m m' : Marker) (left : Option ℕ) : Type 0 where
  pub count : ℕ
  pub scans : HasScanned t m m' count
  pub none : HasNone (is_grey m'.bitmaps.next m'.grey) 0
  pub held : (a : ℕ) → IsPassed left a → is_marked m.bitmaps.next a ≡ true → FollowsHeld t m m' a
  pub next : IfSome left (HasWeaks t)

-- an object without weak slots has no pairs
none_held : (t : Table) (m m' : Marker) (a : ℕ) → (HasWeaks t a → ⊥) → FollowsHeld t m m' a
none_held t m m' a none slot k b pair _ _ =
    let inside = slice_get_within (weaks_at t a) slot (Some k) pair.0 in
    let p = has_weak t a slot inside in
    let is = ap (λ (l : List (Option ℕ)). length l) (weaks_are t a p.object p.object_is) in
    absurd (none (record { object = p.object; is = p.object_is; some = omega (arith, inside, is) }))

pass_on : (t : Table) (m m' : Marker) (from count : ℕ) (left : Option ℕ) → HasScanned t m m' count
    → HasNone (is_grey m'.bitmaps.next m'.grey) 0
    → ((a : ℕ) → a < from → is_marked m.bitmaps.next a ≡ true → FollowsHeld t m m' a) → IsNextWithWeaks t from left → IsPass t m m' left
pass_on t m m' from count None scans none before next = record {
  count = count;
  scans = scans;
  none = none;
  held = λ a _ marked. elim (cases_lt a from) [
    | inl low ↦ before a low marked
    | inr high ↦ none_held t m m' a (next a high)
  ];
  next = tt;
}
pass_on t m m' from count (Some x) scans none before next = record {
  count = count;
  scans = scans;
  none = none;
  held = λ a passed marked. elim (cases_lt a from) [
    | inl low ↦ before a low marked
    | inr high ↦ none_held t m m' a (next.2 a high passed)
  ];
  next = next.1;
}

pub pass_first : (t : Table) (m : Marker) (from : ℕ) (left : Option ℕ) → from ≡ 0 → HasScanned t m m 0
    → HasNone (is_grey m.bitmaps.next m.grey) 0 → IsNextWithWeaks t from left → IsPass t m m left
pass_first t m from left least scans none next = pass_on t m m from 0 left scans none (λ a low. absurd (omega (arith, low, least))) next

-- where an object is there is a mark for it
pub object_within : (t : Table) (m : Marker) (a : ℕ) → IsShaped t → MarkerStands t m → IsSome (object_at t a) → a < length m.bitmaps.next
unfolding object_at
object_within t m a shape st there =
    let p = has_parts t a there in
    let w = shape.within a (Object p.object) (object_tile (tile_in t a) p.object p.is) in
    omega (arith, w, st.next.each_word)

module _ (t : Table) (m m' : Marker) (left : Option ℕ) (x : ℕ) (is : left ≡ Some x) (p : IsPass t m m' left) where
  here : IsPass t m m' (Some x)
  here = subst (λ (l : Option ℕ). IsPass t m m' l) is p

  pub pass_object : IsSome (object_at t x)
  pass_object = rw here.next.is refl

  pub pass_small : IsShaped t → x < max_words
  pass_small shape =
      let inside = object_within t m' x shape p.scans.stands pass_object in
      omega (arith, inside, p.scans.stands.next.each_word, shape.in_all)

  pub pass_next : (m'' : Marker) (behind : ℕ) (next : Option ℕ) → behind ≡ x + 1
      → (is_marked m'.bitmaps.next x ≡ true → FollowsHeld t m' m'' x) → HasNone (is_grey m''.bitmaps.next m''.grey) 0
      → MarkerStands t m'' → KeepsSnapshots t m' m'' → SameRoles m' m'' → m''.logs ≡ m'.logs → m''.waiting ≡ m'.waiting → Grows m' m''
      → ScansMore m' m'' → IsNextWithWeaks t behind next → IsPass t m m'' next
  pass_next m'' behind next e held none st keeps same logs waiting grows w after =
      pass_on t m m'' behind (p.count + w.count) next (scanned_trans t m m' m'' p.count p.scans st keeps same logs waiting grows w) none
      (λ a low marked. elim (cases_lt a x) [
        | inl before ↦ held_later t m m' m'' a (here.held a before marked) grows.marked
        | inr at ↦
            let q : a ≡ x = omega (arith, low, e, at) in
            subst (λ (y : ℕ). FollowsHeld t m m'' y) (sym q)
            (λ slot k b pair key below.
            held (p.scans.grows.marked x (subst (λ (y : ℕ). is_marked m.bitmaps.next y ≡ true) q marked)) slot k b pair
            (p.scans.grows.marked k key) (ap (λ (u : Tops). below_next t u b) p.scans.same.tams ∙ below))
      ]) after

-- all objects were passed
pub pass_last : (t : Table) (m m' : Marker) (left : Option ℕ) → left ≡ None → IsPass t m m' left → FollowsPairs t m m'
pass_last t m m' left none p a marked = p.held a (subst (λ (l : Option ℕ). IsPassed l a) (sym none) tt) marked

module _ (t : Table) (m m' : Marker) (left : Option ℕ) (p : IsPass t m m' left) where
  pub pass_work : ScansMore m m'
  pass_work = record { count = p.count; scanned = p.scans.count; scans = p.scans.scans }

  -- as many objects were scanned as the count of scans tells
  module _ (st : MarkerStands t m) (run : m.running ≡ true) (before after : ℕ) (was : before ≡ m.scans.since)
      (is : after ≡ m'.scans.since) where
    pub pass_more : not (after == before) ≡ true → marked_count m.grey.scanned < marked_count m'.grey.scanned
    pass_more other =
        let since = p.scans.scans.since in
        elim (cases_eq p.count 0) [
          | inl none ↦ absurd (let same = is_same after before (omega (arith, was, is, since, none)) in cc)
          | inr some ↦ omega (arith, p.scans.count, some)
        ]

    pub pass_over : not (after == before) ≡ false → marked_count m'.grey.scanned ≡ marked_count m.grey.scanned
    pass_over same = elim (cases_eq after before) [
      | inl e ↦ omega (arith, was, is, p.scans.scans.since, p.scans.count, e)
      | inr n ↦ absurd (let other = is_other after before n in cc)
    ]

-- ---- pass after pass
bit_less : (x y : Bool) → (x ≡ true → y ≡ true) → (if x then 1 else 0) ≤ (if y then 1 else 0)
bit_less true true f = omega arith
bit_less true false f = absurd (let e = f refl in cc)
bit_less false y f = omega arith

bit_same : (x y : Bool) → (if y then 1 else 0) ≤ (if x then 1 else 0) → y ≡ true → x ≡ true
bit_same true y e k = refl
bit_same false true e k = absurd (omega (arith, e))
bit_same false false e k = k

fewer : (xs ys : List Bool) → length xs ≡ length ys → ((a : ℕ) → is_marked xs a ≡ true → is_marked ys a ≡ true)
    → marked_count xs ≤ marked_count ys
fewer [] [] e within = omega arith
fewer [] (y ∷ ys) e within = absurd (omega (arith, e))
fewer (x ∷ xs) [] e within = absurd (omega (arith, e))
fewer (x ∷ xs) (y ∷ ys) e within =
    omega (
      arith,
      fewer xs ys (omega (arith, e)) (λ a. within (suc a)),
      bit_less x y (within 0),
      sum_by-cons (λ b. if b then 1 else 0) x xs,
      sum_by-cons (λ b. if b then 1 else 0) y ys,
    )

parts : (x y : Bool) (xs ys : List Bool) → length (x ∷ xs) ≡ length (y ∷ ys)
    → ((a : ℕ) → is_marked (x ∷ xs) a ≡ true → is_marked (y ∷ ys) a ≡ true) → marked_count (y ∷ ys) ≡ marked_count (x ∷ xs)
    → ((if y then 1 else 0) ≤ (if x then 1 else 0)) × (marked_count ys ≡ marked_count xs)
parts x y xs ys e within count =
    let rest = fewer xs ys (omega (arith, e)) (λ a. within (suc a)) in
    let first = bit_less x y (within 0) in
    let xs_are = sum_by-cons (λ b. if b then 1 else 0) x xs in
    let ys_are = sum_by-cons (λ b. if b then 1 else 0) y ys in
    (omega (arith, rest, first, xs_are, ys_are, count), omega (arith, rest, first, xs_are, ys_are, count))

-- a set within another one of as many has each of its addresses
same_count : (xs ys : List Bool) → length xs ≡ length ys → ((a : ℕ) → is_marked xs a ≡ true → is_marked ys a ≡ true)
    → marked_count ys ≡ marked_count xs → (a : ℕ) → is_marked ys a ≡ true → is_marked xs a ≡ true
same_count [] [] e within count a k = k
same_count [] (y ∷ ys) e within count a k = absurd (omega (arith, e))
same_count (x ∷ xs) [] e within count a k = absurd (omega (arith, e))
same_count (x ∷ xs) (y ∷ ys) e within count zero k = bit_same x y (omega (arith, parts x y xs ys e within count)) k
same_count (x ∷ xs) (y ∷ ys) e within count (suc a) k =
    let p = parts x y xs ys e within count in
    same_count xs ys (omega (arith, e)) (λ b. within (suc b)) (omega (arith, p)) a k

-- how many passes may still come: each marks something, but for the last
abbrev pub passes_left : Marker → Bool → ℕ
passes_left m true = suc (length m.grey.scanned - marked_count m.grey.scanned)
passes_left m false = 0

pub record IsPassing (t : Table) (m m' : Marker) (more : Bool) : Type 0 where
  pub count : ℕ
  pub scans : HasScanned t m m' count
  pub none : HasNone (is_grey m'.bitmaps.next m'.grey) 0
  pub over : more ≡ false → HasFollowedPairs t m'

module _ (t : Table) (m m' : Marker) (st : MarkerStands t m) (run : m.running ≡ true) (st' : MarkerStands t m') (grows : Grows m m')
    (none : HasNone (is_grey m'.bitmaps.next m'.grey) 0) where
  pub same_length : length m'.grey.scanned ≡ length m.grey.scanned
  same_length = st'.scanned ∙ st'.next.each_word ∙ sym st.next.each_word ∙ sym st.scanned

  -- what is marked after a pass that scanned nothing was marked before it
  none_came : marked_count m'.grey.scanned ≡ marked_count m.grey.scanned → (a : ℕ) → is_marked m'.bitmaps.next a ≡ true
      → is_marked m.bitmaps.next a ≡ true
  none_came count a k =
      let scanned = all_scanned (is_marked m'.bitmaps.next a) (is_marked m'.grey.scanned a) (none a (omega arith)) k in
      st.scanned_marked run a (same_count m.grey.scanned m'.grey.scanned (sym same_length) grows.scanned count a scanned)

  -- so nothing is left that pairs lead to
  pub followed : SameRoles m m' → FollowsPairs t m m' → marked_count m'.grey.scanned ≡ marked_count m.grey.scanned → HasFollowedPairs t m'
  followed same held count a marked slot k b pair key below =
      held a (none_came count a marked) slot k b pair (none_came count k key) (ap (λ (u : Tops). below_next t u b) (sym same.tams) ∙ below)

pub passing_first : (t : Table) (m : Marker) → MarkerStands t m → m.running ≡ true → HasNone (is_grey m.bitmaps.next m.grey) 0
    → IsPassing t m m true
passing_first t m st run none = record { count = 0; scans = none_scanned t m st run; none = none; over = λ e. absurd cc }

module _ (t : Table) (m m' m'' : Marker) (p : IsPassing t m m' true) (st : MarkerStands t m'') (keeps : KeepsSnapshots t m' m'')
    (same : SameRoles m' m'') (logs : m''.logs ≡ m'.logs) (waiting : m''.waiting ≡ m'.waiting) (grows : Grows m' m'') (w : ScansMore m' m'')
    (none : HasNone (is_grey m''.bitmaps.next m''.grey) 0) (more : Bool) where
  pub passing_next : FollowsPairs t m' m'' → (more ≡ false → marked_count m''.grey.scanned ≡ marked_count m'.grey.scanned)
      → IsPassing t m m'' more
  passing_next held over = record {
    count = p.count + w.count;
    scans = scanned_trans t m m' m'' p.count p.scans st keeps same logs waiting grows w;
    none = none;
    over = λ off. followed t m' m'' p.scans.stands p.scans.running st grows none same held (over off);
  }

  -- fewer passes may still come
  pub fewer_left : (more ≡ true → marked_count m'.grey.scanned < marked_count m''.grey.scanned) → passes_left m'' more < passes_left m' true
  fewer_left some = go more refl
    where
      go : (b : Bool) → more ≡ b → passes_left m'' b < passes_left m' true
      go false e = omega arith
      go true e =
          let long = same_length t m' m'' p.scans.stands p.scans.running st grows none in
          omega (arith, long, some e, count_by-le-length (λ b. b) m''.grey.scanned)

-- the same by the fields of the loop
pub passing_on : (t : Table) (m m' m'' : Marker) (was more : Bool) → was ≡ true → IsPassing t m m' was → MarkerStands t m''
    → KeepsSnapshots t m' m'' → SameRoles m' m'' → m''.logs ≡ m'.logs → m''.waiting ≡ m'.waiting → Grows m' m'' → ScansMore m' m''
    → HasNone (is_grey m''.bitmaps.next m''.grey) 0 → FollowsPairs t m' m''
    → (more ≡ false → marked_count m''.grey.scanned ≡ marked_count m'.grey.scanned) → IsPassing t m m'' more
passing_on t m m' m'' was more on p st keeps same logs waiting grows w none held over =
    passing_next t m m' m'' (subst (λ (b : Bool). IsPassing t m m' b) on p) st keeps same logs waiting grows w none more held over

pub passing_work : (t : Table) (m m' : Marker) (more : Bool) → IsPassing t m m' more → ScansMore m m'
passing_work t m m' more p = record { count = p.count; scanned = p.scans.count; scans = p.scans.scans }

-- where no object has held slots
pub bare_followed : (t : Table) (m : Marker) → AreBare t → HasFollowedPairs t m
bare_followed t m bare a marked slot k b pair _ _ =
    let inside = slice_get_within (held_at t a) slot (Some b) pair.1 in
    let p = has_parts t a (has_held t a slot inside) in
    let is = ap (λ (l : List (Option ℕ)). length l) (p.held ∙ bare a p.object p.is) in
    absurd (omega (arith, inside, is))

-- after a scan of n objects
pub work_then : (m m' m'' : Marker) (n : ℕ) → marked_count m'.grey.scanned ≡ marked_count m.grey.scanned + n
    → IsMore m.scans m'.scans n → ScansMore m' m'' → ScansMore m m''
work_then m m' m'' n count scans w = record {
  count = n + w.count;
  scanned = omega (arith, count, w.scanned);
  scans = more_trans m.scans m'.scans m''.scans n w.count scans w.scans;
}
