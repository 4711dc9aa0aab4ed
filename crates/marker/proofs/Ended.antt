-- Marking has ended: it is exact, and what is kept from then on shows the same graph.
use Rattle.std.proofs.Common.{◌≡◌, ◌+◌, ◌-◌, ◌^◌, ◌<◌, ◌⊎◌, ◌∷◌, ◌++◌, ◌∙◌, inl, inr, Some, None, ℕ, suc, Bool, true, false, not}
use Rattle.std.proofs.Common.{List, [], Option, length}
use Rattle.std.proofs.Common.{refl, sym, ap, subst, arith, ◌&&◌, map, slice_get, IsSome, if◌then◌else◌}
use Rattle.std.proofs.lemmas.List.{length-map}
use Rattle.std.proofs.lemmas.List.Sums.{count_by-le-length}
use Rattle.heap_model.specs.Graph.{Graph, held_by}
use Rattle.heap_model.specs.Heap.{Heap, Stored}
use Rattle.heap_model.specs.Marking.{Marking, KeepsSnapshot, IsDone, MarksExactly, kept_after}
use Rattle.heap_model.specs.Weak.{cleared, cleared_word, cleared_object}
use Rattle.heap_model.specs.Clearing.{WillShow, ClearsWeaks, kept_word, with_kept_weaks}
use Rattle.heap_model.specs.Count.{IsReachableCount}
use Rattle.heap_model.proofs.Finish.{exact, kept_before_here, kept_or_new, quiet_kept, reachable_kept}
use Rattle.heap_model.proofs.Cleared.{will_show_ended, clears_exists}
use Rattle.heap_model.proofs.Touched.{reached_known}
use Rattle.heap_model.proofs.Counted.{counted}
use Rattle.heap_model.proofs.Names.{bool_cases}
use Rattle.heap_model.proofs.Waiting.{will_same, cleared_target}
use Rattle.regions.specs.Table.{Table, object_at, object_pointers, pointers_at, stored_size, object_words}
use Rattle.regions.specs.Shaped.{IsShaped}
use Rattle.regions.proofs.Words.Fields.{held_by_long}
use Rattle.mark_bitmap.specs.Marks.{is_marked, marked_count, HasNone}
use Rattle.mark_bitmap.specs.Tops.{Tops, exchanged, is_below, below_next, below_previous, AreNewer}
use Rattle.mark_bitmap.specs.Grey.{Scans, is_grey}
use Rattle.mark_bitmap.specs.Kept.{MarksObjects, kept_in}
use Rattle.mark_bitmap.proofs.KeptLaws.{newer_below}
use Rattle.mark_bitmap.proofs.Listed.{marked_from, listed, length-marked_from}
use Rattle.satb_log.specs.Logs.{logged, log_of}
use Rattle.satb_log.proofs.Logged.{none_logged}
use Rattle.marker.specs.Views.{heap_of, marking_of, with_roles_exchanged, ended_marking_of}
use Rattle.marker.specs.Waiting.{Waiting}
use Rattle.marker.specs.Stands.{MarkerStands, CanFollow}
use Rattle.marker.specs.Pairs.{HasFollowedPairs}
use Rattle.marker.specs.Live.{LiveCounts, CountsWords, counts_exchanged}
use Rattle.marker.specs.Steps.{KeepsSnapshots, SameRoles}
use Rattle.marker.specs.Clears.{ClearsSome, IsStaying, LeadIntoTable}
use Rattle.marker.specs.Ends.{EndsMarking, EndsExactly, WasKept}
use Rattle.marker.specs.declared.marker.Marker.{Marker}
use Rattle.marker.proofs.Views.{same_heap, kept_object}
use Rattle.marker.proofs.HeldSlots.{weaks_are, held_are}
use Rattle.marker.proofs.Forgotten.{role_stays}
use Rattle.marker.proofs.LiveCounts.{counts_same}
use Rattle.marker.proofs.Reached.{same_trans}
use Rattle.marker.proofs.Marking.{snapshots_trans}
use Rattle.marker.proofs.Scanned.{grey_is}

-- no more objects are scanned than there are addresses
pub few_scans : (t : Table) (m m' : Marker) (n : ℕ) → IsShaped t → MarkerStands t m'
    → marked_count m'.grey.scanned ≡ marked_count m.grey.scanned + n → n < 2 ^ 32 - 1
few_scans t m m' n shape st count =
    omega (arith, count, count_by-le-length (λ b. b) m'.grey.scanned, st.scanned, st.next.each_word, shape.in_all)

pub all_scanned : (marked scanned : Bool) → (marked && not scanned) ≡ false → marked ≡ true → scanned ≡ true
all_scanned true true e k = refl
all_scanned true false e k = cc
all_scanned false scanned e k = cc

-- no object is grey, and nothing is logged
pub record IsScanned (m : Marking) : Type 0 where
  pub grey : (a : ℕ) → m.marked a ≡ true → m.scanned a ≡ true
  pub logged : m.logged ≡ []

pub is_scanned : (t : Table) (m : Marker) → HasNone (is_grey m.bitmaps.next m.grey) 0 → m.waiting.addresses ≡ []
    → ((k : ℕ) → k < length m.logs → log_of m.logs k ≡ []) → IsScanned (marking_of t m)
is_scanned t m none waiting empty = record {
  grey = λ a k. all_scanned (is_marked m.bitmaps.next a) (is_marked m.grey.scanned a) (none a (omega arith)) k;
  logged = ap (λ (xs : List ℕ). xs ++ logged m.logs) waiting ∙ none_logged m.logs empty;
}

-- so nothing is left to mark, where pairs were followed
pub is_done : (t : Table) (m : Marker) → IsScanned (marking_of t m) → HasFollowedPairs t m → (roots : List (Option ℕ))
    → IsDone (heap_of t roots m) (marking_of t m)
is_done t m scanned pairs roots = record {
  grey = scanned.grey;
  logged = scanned.logged;
  held = λ a k b marked key p below.
      let at = kept_object t m.tams m.bitmaps.previous a p.object p.at in
      pairs a marked p.slot k b (
        ap (λ (l : List (Option ℕ)). slice_get l p.slot) (weaks_are t a p.object at) ∙ p.is.0,
        ap (λ (l : List (Option ℕ)). slice_get l p.slot) (held_are t a p.object at) ∙ p.is.1,
      ) key below;
}

-- lists that are empty together are empty
both_empty : (xs ys : List ℕ) → xs ++ ys ≡ [] → (xs ≡ []) × (ys ≡ [])
both_empty [] ys e = (refl, e)
both_empty (x ∷ xs) ys e = absurd cc

same_marks : (xs ys : List Bool) → length xs ≡ length ys → ((a : ℕ) → is_marked xs a ≡ is_marked ys a) → xs ≡ ys
same_marks [] [] e same = refl
same_marks [] (y ∷ ys) e same = absurd (omega (arith, e))
same_marks (x ∷ xs) [] e same = absurd (omega (arith, e))
same_marks (x ∷ xs) (y ∷ ys) e same =
    let first : x ≡ y = same 0 in
    let rest : xs ≡ ys = same_marks xs ys (omega (arith, e)) (λ a. same (suc a)) in
    cc

agree : (a b : Bool) → (a ≡ true → b ≡ true) → (b ≡ true → a ≡ true) → a ≡ b
agree true b f g = sym (f refl)
agree false true f g = g refl
agree false false f g = refl

-- where nothing is left to mark, as many objects were scanned as are marked
pub done_count : (t : Table) (m : Marker) → MarkerStands t m → m.running ≡ true → IsScanned (marking_of t m)
    → m.scans.since ≡ marked_count m.bitmaps.next
done_count t m st run done =
    st.counted run ∙ ap marked_count
    (same_marks m.grey.scanned m.bitmaps.next st.scanned
    (λ a. agree (is_marked m.grey.scanned a) (is_marked m.bitmaps.next a) (st.scanned_marked run a) (done.grey a)))

-- all logs and all roots that waited were taken, and all grey objects scanned
pub record IsOver (t : Table) (m m' : Marker) : Type 0 where
  pub stands : MarkerStands t m'
  pub running : m'.running ≡ true
  pub same : SameRoles m m'
  pub snapshots : KeepsSnapshots t m m'
  pub scanned : IsScanned (marking_of t m')
  pub pairs : HasFollowedPairs t m'

pub over : (t : Table) (m m' m'' : Marker) → m.running ≡ true → SameRoles m m' → KeepsSnapshots t m m'
    → ((k : ℕ) → k < length m'.logs → log_of m'.logs k ≡ []) → MarkerStands t m'' → SameRoles m' m'' → KeepsSnapshots t m' m''
    → m''.logs ≡ m'.logs → m'.waiting.addresses ≡ [] → m''.waiting ≡ m'.waiting
    → HasNone (is_grey m''.bitmaps.next m''.grey) 0 → HasFollowedPairs t m'' → IsOver t m m''
over t m m' m'' run same keeps empty st same' keeps' logs taken waiting none pairs = record {
  stands = st;
  running = same'.running ∙ same.running ∙ run;
  same = same_trans m m' m'' same same';
  snapshots = snapshots_trans t m m' m'' same keeps keeps';
  scanned = is_scanned t m'' none (ap (λ (w : Waiting). w.addresses) waiting ∙ taken)
      (subst (λ (x : List (List ℕ)). (k : ℕ) → k < length x → log_of x k ≡ []) (sym logs) empty);
  pairs = pairs;
}

-- the roles were exchanged
pub record IsExchanged (m m' : Marker) : Type 0 where
  pub previous : m'.bitmaps.previous ≡ m.bitmaps.next
  pub next : m'.bitmaps.next ≡ m.bitmaps.previous
  pub tams : m'.tams ≡ exchanged m.tams
  pub grey : m'.grey ≡ m.grey
  pub logs : m'.logs ≡ m.logs
  pub live : m'.live ≡ counts_exchanged m.live
  pub waiting : m'.waiting ≡ m.waiting
  pub off : m'.running ≡ false

pub exchanged_marking : (t : Table) (m m' : Marker) → IsExchanged m m' → marking_of t (with_roles_exchanged m') ≡ marking_of t m
exchanged_marking t m m' e = rw (e.tams, e.previous, e.grey, e.logs, e.waiting) refl

exchanged_kept : (t : Table) (roots : List (Option ℕ)) (m m' : Marker) (a : ℕ) → IsExchanged m m'
    → (heap_of t roots m').kept a ≡ kept_in t (exchanged m.tams) m.bitmaps.next a
exchanged_kept t roots m m' a e = rw (e.tams, e.previous) refl

-- ---- some weak slots are cleared
module _ (t t' : Table) (k : Marking) (d : ℕ → Type 0) (c : ClearsSome k t t' d) where
  -- an object stays one
  cleared_has : (a : ℕ) (x : Stored) → object_at t a ≡ Some x → (y : Stored) × (object_at t' a ≡ Some y)
  cleared_has a x at = elim (c.each a) [ inl same ↦ (x, same ∙ at) | inr y ↦ (cleared k x, y.1 ∙ ap (cleared_object k) at) ]

  -- marks stand at objects of the cleared table too
  cleared_marks : (tops : List ℕ) (marks : List Bool) → MarksObjects t tops marks → MarksObjects t' tops marks
  cleared_marks tops marks o = role_stays t t' tops marks o c.count c.size
      (λ i h. let top = o.top i h in let same = c.tops i in omega arith) (λ a x m at. cleared_has a x at)

  -- an object has as many words as before
  cleared_words : (a : ℕ) (x : Stored) → object_at t a ≡ Some x → object_words t' a ≡ object_words t a
  unfolding object_words
  cleared_words a x at = elim (c.each a) [ inl same ↦ ap stored_size same | inr y ↦ ap stored_size y.1 ∙ size ]
    where
      long : stored_size (Some (cleared k x)) ≡ stored_size (Some x)
      long =
          let weaks = length-map x.weaks (cleared_word k) in
          let held = held_by_long (map (cleared_word k) x.weaks) x.held in
          omega (arith, weaks, held)

      size : stored_size (cleared_object k (object_at t a)) ≡ stored_size (object_at t a)
      size = ap (λ (o : Option Stored). stored_size (cleared_object k o)) at ∙ long ∙ sym (ap stored_size at)

  -- and as many pointers
  cleared_pointers : (a : ℕ) (x : Stored) → object_at t a ≡ Some x → length (pointers_at t' a) ≡ length (pointers_at t a)
  unfolding pointers_at
  cleared_pointers a x at = elim (c.each a) [
    | inl same ↦ ap (λ (o : Option Stored). length (object_pointers o)) same
    | inr y ↦ ap (λ (o : Option Stored). length (object_pointers o)) y.1
        ∙ ap (λ (o : Option Stored). length (object_pointers (cleared_object k o))) at
        ∙ sym (ap (λ (o : Option Stored). length (object_pointers o)) at)
  ]

  -- what is counted of marked objects holds of the cleared table too
  cleared_counts : (tops : List ℕ) (marks : List Bool) (counts : List ℕ) → MarksObjects t tops marks → CountsWords t marks counts
      → CountsWords t' marks counts
  cleared_counts tops marks counts o counted =
      counts_same t t' marks marks counts counted c.count c.size (λ a. refl) (λ a h. let x = o.object a h in cleared_words a x.0 x.1)

  -- the marker has to do with the cleared table what it had to do with the other one
  pub cleared_stands : (m : Marker) → (m.running ≡ true → CanFollow t' m) → MarkerStands t m → MarkerStands t' m
  cleared_stands m follows st = record {
    previous = cleared_marks m.tams.previous m.bitmaps.previous st.previous;
    next = cleared_marks m.tams.next m.bitmaps.next st.next;
    scanned = st.scanned;
    finger = st.finger;
    newer = st.newer;
    follows = follows;
    idle = st.idle;
    none_wait = st.none_wait;
    scanned_marked = st.scanned_marked;
    counted = st.counted;
    part = λ run a held.
        let marked = (grey_is m.bitmaps.next m.grey a ((st.finger run).held a held)).0 in
        let x = st.next.object a marked in
        omega (arith, st.part run a held, cleared_pointers a x.0 x.1);
    live = cleared_counts m.tams.previous m.bitmaps.previous m.live.previous st.previous st.live;
    live_next = cleared_counts m.tams.next m.bitmaps.next m.live.next st.next st.live_next;
  }

-- what is kept stays so, and where clearing looked, the slots that lead to nothing kept are nil
module _ (t t' : Table) (m : Marker) (roots : List (Option ℕ)) (d : ℕ → Type 0) (c : ClearsSome (ended_marking_of t m) t t' d)
    (lead : LeadIntoTable t (heap_of t roots m)) where
  abbrev before_it : Heap
  before_it = heap_of t roots m

  abbrev after_it : Heap
  after_it = heap_of t' roots m

  abbrev told : Marking
  told = ended_marking_of t m

  staying_kept : (a : ℕ) → IsStaying told a → before_it.kept a ≡ object_at t a
  staying_kept a (inl k) = elim (bool_cases (below_previous t m.tams a)) [ inl b ↦ rw (b, k) refl | inr b ↦ rw b refl ]
  staying_kept a (inr b) = rw b refl

  staying_after : (a : ℕ) → IsStaying told a → after_it.kept a ≡ object_at t' a
  staying_after a s = ap (λ (w : ℕ). if is_below w m.tams.previous a then (if is_marked m.bitmaps.previous a then object_at t' a else None)
      else object_at t' a) c.size ∙ go s
    where
      go : IsStaying told a → (if is_below t.words_per_region m.tams.previous a
          then (if is_marked m.bitmaps.previous a then object_at t' a else None) else object_at t' a) ≡ object_at t' a
      go (inl k) = elim (bool_cases (below_previous t m.tams a)) [ inl b ↦ rw (b, k) refl | inr b ↦ rw b refl ]
      go (inr b) = rw b refl

  pub word_kept : (a b : ℕ) → IsSome (object_at t b) → cleared_word told (Some b) ≡ kept_word before_it.kept (Some b)
  word_kept a b there =
      let (y, at) = an_object (object_at t b) refl there in
      elim (bool_cases (below_previous t m.tams b)) [
        | inl old ↦ elim (bool_cases (is_marked m.bitmaps.previous b)) [ inl k ↦ rw (old, k, at) refl | inr k ↦ rw (old, k) refl ]
        | inr new ↦ rw (new, at) refl
      ]
    where
      an_object : (o : Option Stored) → object_at t b ≡ o → IsSome (object_at t b) → (y : Stored) × (object_at t b ≡ Some y)
      an_object None e h = absurd (let k = h in cc)
      an_object (Some y) e h = (y, e)

  words_kept : (a : ℕ) (x : Stored) → before_it.kept a ≡ Some x → (ws : List (Option ℕ))
      → ((i b : ℕ) → slice_get ws i ≡ Some (Some b) → IsSome (object_at t b))
      → map (cleared_word told) ws ≡ map (kept_word before_it.kept) ws
  words_kept a x at [] f = refl
  words_kept a x at (None ∷ ws) f = ap (λ l. None ∷ l) (words_kept a x at ws (λ i b e. f (suc i) b e))
  words_kept a x at (Some b ∷ ws) f =
      let first = word_kept a b (f 0 b refl) in
      let rest = words_kept a x at ws (λ i b e. f (suc i) b e) in
      cc

  staying_each : (a : ℕ) → IsStaying told a → (object_at t' a ≡ cleared_object told (object_at t a)) → (x : Stored)
      → before_it.kept a ≡ Some x → after_it.kept a ≡ Some (with_kept_weaks before_it.kept x)
  staying_each a s e x at =
      let here : object_at t a ≡ Some x = sym (staying_kept a s) ∙ at in
      staying_after a s ∙ e ∙ ap (cleared_object told) here
      ∙ ap (λ ws. Some (record x { weaks = ws; held = held_by ws x.held }))
      (words_kept a x at x.weaks (λ i b w. lead a b (record { object = x; at = at; slot = i; is = w })))

  some_kept : (a : ℕ) → (o : Option Stored) → before_it.kept a ≡ o
      → (before_it.kept a ≡ None) ⊎ ((x : Stored) × (before_it.kept a ≡ Some x))
  some_kept a None e = inl e
  some_kept a (Some x) e = inr (x, e)

  is_staying : (a : ℕ) (x : Stored) → before_it.kept a ≡ Some x → IsStaying told a
  is_staying a x at = elim (bool_cases (is_marked m.bitmaps.previous a)) [
    | inl k ↦ inl k
    | inr k ↦ elim (bool_cases (below_previous t m.tams a)) [
      | inl b ↦ absurd (let none : before_it.kept a ≡ None = rw (b, k) refl in let is = at in cc)
      | inr b ↦ inr b
    ]
  ]

  pub clears_weaks : ClearsWeaks (heap_of t roots m) (heap_of t' roots m)
  clears_weaks = record {
    roots = refl;
    each = λ a. elim (c.each a) [
      | inl same ↦ inl (rw same (ap (λ (w : ℕ). if is_below w m.tams.previous a
          then (if is_marked m.bitmaps.previous a then object_at t a else None) else object_at t a) c.size))
      | inr k ↦ elim (some_kept a (before_it.kept a) refl) [
        | inl none ↦ inl (staying_after a k.0 ∙ k.1 ∙ ap (cleared_object told) (sym (staying_kept a k.0) ∙ none) ∙ sym none)
        | inr x ↦ inr (x.0, x.1, staying_each a k.0 k.1 x.0 x.1)
      ]
    ];
  }

  -- weak slots still lead to objects of the table
  pub lead_cleared : LeadIntoTable t' (heap_of t' roots m)
  lead_cleared a b w = elim (clears_weaks.each a) [
    | inl q ↦ there (lead a b (record { object = w.object; at = sym q ∙ w.at; slot = w.slot; is = w.is }))
    | inr q ↦
        let same : w.object ≡ with_kept_weaks before_it.kept q.0 = let k = w.at in let l = q.2 in cc in
        let (is, k) = cleared_target before_it.kept q.0.weaks w.slot b (ap (λ (z : Stored). slice_get z.weaks w.slot) (sym same) ∙ w.is) in
        there (lead a b (record { object = q.0; at = q.1; slot = w.slot; is = is }))
  ]
    where
      there : IsSome (object_at t b) → IsSome (object_at t' b)
      there h = go (object_at t b) refl h
        where
          go : (o : Option Stored) → object_at t b ≡ o → IsSome (object_at t b) → IsSome (object_at t' b)
          go None q k = absurd (let r = k in cc)
          go (Some x) q k = let (y, is) = cleared_has t t' (ended_marking_of t m) d c b x q in rw is refl

  -- where it has looked, kept objects are cleared
  pub clears_done : (a : ℕ) (x : Stored) → d a → before_it.kept a ≡ Some x
      → (heap_of t' roots m).kept a ≡ Some (with_kept_weaks (heap_of t roots m).kept x)
  clears_done a x done at = let s = is_staying a x at in staying_each a s (c.done_is a done s) x at

-- ---- the roles are exchanged
pub exchanged_stands : (t : Table) (m m' : Marker) → MarkerStands t m → IsScanned (marking_of t m) → IsExchanged m m'
    → MarkerStands t m'
exchanged_stands t m m' st done e = record {
  previous = subst (λ (x : Tops). MarksObjects t x.previous m'.bitmaps.previous) (sym e.tams)
      (subst (λ (b : List Bool). MarksObjects t m.tams.next b) (sym e.previous) st.next);
  next = subst (λ (x : Tops). MarksObjects t x.next m'.bitmaps.next) (sym e.tams)
      (subst (λ (b : List Bool). MarksObjects t m.tams.previous b) (sym e.next) st.previous);
  scanned =
      ap (λ (g : Scans). length g.scanned) e.grey ∙ st.scanned ∙ st.next.each_word ∙ sym st.previous.each_word ∙ sym (ap length e.next);
  finger = λ on. absurd (let f = e.off in cc);
  newer = λ on. absurd (let f = e.off in cc);
  follows = λ on. absurd (let f = e.off in cc);
  idle = λ _. ap logged e.logs ∙ (both_empty m.waiting.addresses (logged m.logs) done.logged).1;
  none_wait = λ _. ap (λ (w : Waiting). w.addresses) e.waiting ∙ (both_empty m.waiting.addresses (logged m.logs) done.logged).0;
  scanned_marked = λ on. absurd (let f = e.off in cc);
  counted = λ on. absurd (let f = e.off in cc);
  part = λ on. absurd (let f = e.off in cc);
  live = subst (λ (l : LiveCounts). CountsWords t m'.bitmaps.previous l.previous) (sym e.live)
      (subst (λ (b : List Bool). CountsWords t b m.live.next) (sym e.previous) st.live_next);
  live_next = subst (λ (l : LiveCounts). CountsWords t m'.bitmaps.next l.next) (sym e.live)
      (subst (λ (b : List Bool). CountsWords t b m.live.previous) (sym e.next) st.live);
}

-- the new previous marks and tops keep what marking keeps
swapped : (t : Table) (m : Marker) (roots : List (Option ℕ)) (s : Graph) → AreNewer m.tams
    → KeepsSnapshot s (heap_of t roots m) (marking_of t m) → (a : ℕ)
    → kept_in t (exchanged m.tams) m.bitmaps.next a ≡ kept_after (heap_of t roots m) (marking_of t m) a
swapped t m roots s newer i a = elim (bool_cases (is_marked m.bitmaps.next a)) [
  | inl k ↦
      let r = i.marked a k in
      let o = r.old in
      let at = kept_object t m.tams m.bitmaps.previous a r.object r.at in
      rw (k, o) (at ∙ sym r.at)
  | inr k ↦ elim (bool_cases (below_next t m.tams a)) [
    | inl o ↦ rw (k, o) refl
    | inr o ↦ let b = newer_below t m.tams a newer o in rw (k, o, b) refl
  ]
]

module _ (t : Table) (m m' m'' : Marker) (count : ℕ) (p : IsOver t m m') (e : IsExchanged m' m'')
    (counts : count ≡ marked_count m'.bitmaps.next) where
  same_kept_after : (s g : Graph) (roots : List (Option ℕ)) → WillShow g (heap_of t roots m)
      → KeepsSnapshot s (heap_of t roots m) (marking_of t m) → (a : ℕ)
      → (heap_of t roots m'').kept a ≡ kept_after (heap_of t roots m) (marking_of t m') a
  same_kept_after s g roots shows keeps a =
      exchanged_kept t roots m' m'' a e
      ∙ swapped t m' roots s (p.stands.newer p.running) (p.snapshots s g roots shows keeps) a
      ∙ ap (λ (h : Heap). kept_after h (marking_of t m') a) (same_heap t roots m m' p.same)

  module _ (s g : Graph) (roots : List (Option ℕ)) (shows : WillShow g (heap_of t roots m))
      (keeps : KeepsSnapshot s (heap_of t roots m) (marking_of t m)) where
    abbrev h : Heap
    h = heap_of t roots m

    now : KeepsSnapshot s h (marking_of t m')
    now = subst (λ (x : Heap). KeepsSnapshot s x (marking_of t m')) (same_heap t roots m m' p.same) (p.snapshots s g roots shows keeps)

    kept_now : (a : ℕ) → (heap_of t roots m'').kept a ≡ kept_after h (marking_of t m') a
    kept_now a = same_kept_after s g roots shows keeps a

    done : IsDone h (marking_of t m')
    done =
        let same = same_heap t roots m m' p.same in
        subst (λ (x : Heap). IsDone x (marking_of t m')) same
        (is_done t m' p.scanned p.pairs roots)

    was_kept : (a : ℕ) (x : Stored) → kept_after h (marking_of t m') a ≡ Some x → WasKept t roots m a x
    was_kept a x k = record {
      before = x;
      was = (kept_before_here s g h (marking_of t m') now done a x k).0;
      name = refl;
      pointers = refl;
      values = refl;
    }

    ends : EndsMarking s g t roots m m'' count
    ends =
        let counted_names = subst (λ (n : ℕ). IsReachableCount s n) (length-marked_from m'.bitmaps.next 0 ∙ sym counts)
        (counted s g h (marking_of t m') shows now done (marked_from 0 m'.bitmaps.next) (listed m'.bitmaps.next)) in
        let (after, clears) = clears_exists s count counted_names g in
        record {
          exact =
              subst (λ (x : Marking). MarksExactly s h x) (sym (exchanged_marking t m' m'' e)) (exact s g h (marking_of t m') now done);
          count = counted_names;
          after = after;
          clears = clears;
          shows = will_same after (record { kept = kept_after h (marking_of t m'); roots = roots }) (heap_of t roots m'')
              (will_show_ended s g after h (marking_of t m') now done shows clears) (record { kept = kept_now; roots = refl });
          unlost = λ n r. reached_known s g h (marking_of t m') shows now n r;
          all = λ n r. let (a, x, k, same) = reachable_kept s g h (marking_of t m') now done n r in (a, x, kept_now a ∙ k, same);
          kept = λ a x k. was_kept a x (sym (kept_now a) ∙ k);
          only = λ a x k. kept_or_new s g h (marking_of t m') now done a x (sym (kept_now a) ∙ k);
        }

    -- each weak slot leads to an object of the table, if it did before
    lead_ended : LeadIntoTable t h → LeadIntoTable t (heap_of t roots m'')
    lead_ended lead a b w =
        let was = (kept_before_here s g h (marking_of t m') now done a w.object (sym (kept_now a) ∙ w.at)).0 in
        lead a b (record { object = w.object; at = was; slot = w.slot; is = w.is })

  pub ends_exactly : EndsExactly t m m'' count
  ends_exactly = record {
    ends = λ s g roots shows keeps. ends s g roots shows keeps;
    quiet = λ g roots shows keeps a x k. quiet_kept g (heap_of t roots m) (marking_of t m') (now g g roots shows keeps)
        (done g g roots shows keeps) shows a x (sym (kept_now g g roots shows keeps a) ∙ k);
    lead = λ s g roots shows keeps. lead_ended s g roots shows keeps;
  }
