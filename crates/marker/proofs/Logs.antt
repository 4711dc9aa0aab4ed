-- Taking deletion logs.
use Rattle.std.proofs.Common.{◌≡◌, ◌⊎◌, ◌+◌, ◌<◌, ◌≤◌, ◌∷◌, ◌++◌, ◌∙◌, inl, inr, ℕ, suc, Bool, true, List, [], Option, Some, length, set}
use Rattle.std.proofs.Common.{refl, sym, ap, subst, arith, get_or-set_same, get_or-set_other, length-set, Contains, slice_get}
use Rattle.std.proofs.lemmas.Bool.{cases_eq}
use Rattle.std.proofs.lemmas.List.{nil_from_length}
use Rattle.std.proofs.lemmas.Option.{slice_get_within, slice_get_read, get_or_from_slice_get}
use Rattle.heap_model.specs.Marking.{MarksMore, IsSaved}
use Rattle.regions.specs.Table.{Table}
use Rattle.mark_bitmap.specs.Marks.{is_marked}
use Rattle.mark_bitmap.specs.Tops.{Tops, below_next}
use Rattle.mark_bitmap.specs.Grey.{KeepsPlace, done_in}
use Rattle.satb_log.specs.Logs.{logged, log_of}
use Rattle.satb_log.proofs.Logged.{of_one, stays, only_rest, stays_logged, new_logged, only_logged}
use Rattle.marker.specs.Views.{heap_of, marking_of, untaken}
use Rattle.marker.specs.Waiting.{Waiting}
use Rattle.marker.specs.Stands.{MarkerStands, IsKept}
use Rattle.marker.specs.Steps.{KeepsSnapshots, SameRoles, MarksWanted}
use Rattle.marker.specs.declared.marker.Marker.{Marker}
use Rattle.marker.proofs.Views.{same_kept}
use Rattle.marker.proofs.Reached.{Reached, more_reached, stands_step, same_trans}
use Rattle.marker.proofs.Scanned.{same_snapshots}
use Rattle.marker.proofs.Done.{done_same, none_newly, place_same}
use Rattle.marker.proofs.Marking.{snapshots_trans}

-- one of the first n addresses
pub record IsEarly (log : List ℕ) (n a : ℕ) : Type 0 where
  pub place : ℕ
  pub front : place < n
  pub is : slice_get log place ≡ Some a

-- the logs of the first n mutators were taken
pub record HasTaken (t : Table) (m m' : Marker) (n : ℕ) : Type 0 where
  pub stands : MarkerStands t m'
  pub running : m'.running ≡ true
  pub snapshots : KeepsSnapshots t m m'
  pub emptied : (k : ℕ) → k < n → log_of m'.logs k ≡ []
  pub len : length m'.logs ≡ length m.logs
  pub scanned : m'.grey.scanned ≡ m.grey.scanned
  pub scans : m'.scans ≡ m.scans
  pub waiting : m'.waiting ≡ m.waiting
  pub same : SameRoles m m'

pub none_were_taken : (t : Table) (m : Marker) → MarkerStands t m → m.running ≡ true → HasTaken t m m 0
none_were_taken t m st run = record {
  stands = st;
  running = run;
  snapshots = λ s g roots shows keeps. keeps;
  emptied = λ k h. absurd (omega arith);
  len = refl;
  scanned = refl;
  scans = refl;
  waiting = refl;
  same = record { previous = refl; tams = refl; running = refl; room = refl };
}

pub early_split : (log : List ℕ) (n a b : ℕ) → slice_get log n ≡ Some b → IsEarly log (n + 1) a → IsEarly log n a ⊎ (Some b ≡ Some a)
early_split log n a b e i =
    elim (cases_eq i.place n) [
      | inl same ↦ inr (let f : slice_get log n ≡ Some a = ap (slice_get log) (sym same) ∙ i.is in cc)
      | inr other ↦ inl (record { place = i.place; front = omega (arith, i.front, other); is = i.is })
    ]

pub early_more : (t : Table) (log : List ℕ) (n b : ℕ) (m m' m'' : Marker) → slice_get log n ≡ Some b
    → Reached t (IsEarly log n) m m' → Reached t (λ a. Some b ≡ Some a) m' m'' → Reached t (IsEarly log (n + 1)) m m''
early_more t log n b m m' m'' e p q =
    more_reached t (IsEarly log n) (λ a. Some b ≡ Some a) (IsEarly log (n + 1)) m m' m''
    (λ a i. early_split log n a b e i)
    (λ a i. record { place = i.place; front = omega (arith, i.front); is = i.is })
    (λ a f. record { place = n; front = omega arith; is = e ∙ f }) p q

-- what is marked already wants nothing
pub early_marked : (t : Table) (log : List ℕ) (n b : ℕ) (m m' : Marker) → slice_get log n ≡ Some b → is_marked m'.bitmaps.next b ≡ true
    → Reached t (IsEarly log n) m m' → Reached t (IsEarly log (n + 1)) m m'
early_marked t log n b m m' e marked p =
    early_more t log n b m m' m' e p (record {
      stands = p.stands;
      marks = record {
        stays = λ a k. k;
        only = λ a k. inl k;
        each = λ a w _. let same : b ≡ a = cc in subst (λ (x : ℕ). is_marked m'.bitmaps.next x ≡ true) same marked;
      };
      same = record { previous = refl; tams = refl; running = refl; room = refl };
      scanned = refl;
      place = place_same m'.grey;
      scans = refl;
      logs = refl;
      waiting = refl;
    })

pub early_contained : (log : List ℕ) (n a : ℕ) → IsEarly log n a → Contains log a
early_contained log n a i = (i.place, slice_get_within log i.place a i.is, get_or_from_slice_get log i.place a a i.is)

pub contained : (log : List ℕ) (place a : ℕ) → slice_get log place ≡ Some a → Contains log a
contained log place a e = (place, slice_get_within log place a e, get_or_from_slice_get log place a a e)

pub all_early : (log : List ℕ) (n a : ℕ) → length log ≤ n → Contains log a → IsEarly log n a
all_early log n a all k = record {
  place = k.0;
  front = omega (arith, all, k.1);
  is = slice_get_read log (length log) k.0 a refl k.1 (sym k.2);
}

pub all_marks : (t : Table) (log : List ℕ) (n : ℕ) (m m' : Marker) → length log ≤ n
    → Reached t (IsEarly log n) m m' → MarksWanted t (Contains log) m m'
all_marks t log n m m' all p = record {
  stays = p.marks.stays;
  only = λ a k. elim (p.marks.only a k) [ inl was ↦ inl was | inr w ↦ inr (early_contained log n a w) ];
  each = λ a w below. p.marks.each a (all_early log n a all w) below;
}

abbrev pub with_logs : Marker → List (List ℕ) → Marker
with_logs m ls = record {
  bitmaps = m.bitmaps;
  tams = m.tams;
  grey = m.grey;
  logs = ls;
  running = m.running;
  scans = m.scans;
  live = m.live;
  waiting = m.waiting;
}

-- the roots that wait are a log too, in front of the mutators': all that is untaken is logged so
abbrev pub all_logs : Marker → List (List ℕ) → List (List ℕ)
all_logs m ls = m.waiting.addresses ∷ ls

-- a log is drained
pub drained_stands : (t : Table) (m : Marker) (k : ℕ) (ls : List (List ℕ)) → MarkerStands t m → m.running ≡ true
    → ls ≡ set m.logs k [] → MarkerStands t (with_logs m ls)
drained_stands t m k ls st run e =
    stands_step t m (with_logs m ls) st run (record { previous = refl; tams = refl; running = refl; room = refl })
    refl (ap length e ∙ length-set m.logs k [])
    (λ a l. only_rest (all_logs m m.logs) (suc k) a (subst (λ (x : List (List ℕ)). Contains (logged (all_logs m x)) a) e l))
    st.next (st.finger run) (λ a marked. inl marked) (st.scanned_marked run) (st.counted run) refl st.live_next (st.part run)

pub drained_kept : (t : Table) (m : Marker) (k : ℕ) (ls : List (List ℕ)) (log : List ℕ) (a : ℕ) → MarkerStands t m → m.running ≡ true
    → log ≡ log_of m.logs k → Contains log a → IsKept t (with_logs m ls) a
drained_kept t m k ls log a st run e l =
    same_kept t m (with_logs m ls) a (record { previous = refl; tams = refl; running = refl; room = refl })
    ((st.follows run).logged_kept a (of_one (all_logs m m.logs) (suc k) a (subst (λ (x : List ℕ). Contains x a) e l)))

-- a log is taken
taken_more : (t : Table) (m m' : Marker) (k : ℕ) (roots : List (Option ℕ)) → MarkerStands t m → m.running ≡ true → SameRoles m m'
    → m'.grey.scanned ≡ m.grey.scanned → KeepsPlace m.grey m'.grey → m'.logs ≡ set m.logs k [] → m'.waiting ≡ m.waiting
    → MarksWanted t (Contains (log_of m.logs k)) m m' → MarksMore (heap_of t roots m) (marking_of t m) (marking_of t m')
taken_more t m m' k roots st run same scanned place logs waiting marks =
    let left : untaken m' ≡ logged (set (all_logs m m.logs) (suc k) []) =
    ap (λ (w : Waiting). w.addresses ++ logged m'.logs) waiting ∙ ap (λ (ls : List (List ℕ)). logged (all_logs m ls)) logs in
    record {
      old = λ a. ap (λ (x : Tops). below_next t x a) same.tams;
      marked = marks.stays;
      newly_marked = λ a now. elim (marks.only a now) [
        | inl was ↦ inl was
        | inr w ↦ inr (inl (of_one (all_logs m m.logs) (suc k) a w))
      ];
      newly_scanned = λ a now. inl (ap (λ (b : List Bool). is_marked b a) (sym scanned) ∙ now);
      newly_done = λ a b p now _. absurd (none_newly (heap_of t roots m) (marking_of t m) (done_in m'.grey)
          (done_same m.grey m'.grey place) a b p now);
      taken = λ a l. elim (stays (all_logs m m.logs) (suc k) [] a l) [
        | inl rest ↦ inr (subst (λ (x : List ℕ). Contains x a) (sym left) rest)
        | inr own ↦ inl (marks.each a own ((st.follows run).logged_below a l))
      ];
      logged = λ a l. only_rest (all_logs m m.logs) (suc k) a (subst (λ (x : List ℕ). Contains x a) left l);
    }

pub taken_keeps : (t : Table) (m m' : Marker) (k : ℕ) → MarkerStands t m → m.running ≡ true → SameRoles m m'
    → m'.grey.scanned ≡ m.grey.scanned → KeepsPlace m.grey m'.grey → m'.logs ≡ set m.logs k [] → m'.waiting ≡ m.waiting
    → MarksWanted t (Contains (log_of m.logs k)) m m' → KeepsSnapshots t m m'
taken_keeps t m m' k st run same scanned place logs waiting marks =
    same_snapshots t m m' same (λ roots. taken_more t m m' k roots st run same scanned place logs waiting marks)

pub one_taken : (t : Table) (m m' m'' : Marker) (n : ℕ) → HasTaken t m m' n → n < length m'.logs
    → MarkerStands t m'' → KeepsSnapshots t m' m'' → m''.logs ≡ set m'.logs n [] → m''.scans ≡ m'.scans → m''.waiting ≡ m'.waiting
    → SameRoles m' m'' → m''.grey.scanned ≡ m'.grey.scanned → HasTaken t m m'' (n + 1)
one_taken t m m' m'' n p known st keeps logs scans waiting same scanned = record {
  stands = st;
  running = same.running ∙ p.running;
  snapshots = snapshots_trans t m m' m'' p.same p.snapshots keeps;
  emptied = λ k h. ap (λ (x : List (List ℕ)). log_of x k) logs ∙ elim (cases_eq k n) [
    | inl e ↦ ap (log_of (set m'.logs n [])) e ∙ get_or-set_same m'.logs n [] [] known
    | inr e ↦ get_or-set_other m'.logs n k [] [] e ∙ p.emptied k (omega (arith, h, e))
  ];
  len = ap length logs ∙ length-set m'.logs n [] ∙ p.len;
  scanned = scanned ∙ p.scanned;
  scans = scans ∙ p.scans;
  waiting = waiting ∙ p.waiting;
  same = same_trans m m' m'' p.same same;
}

-- a log that is empty counts as taken
pub none_taken : (t : Table) (m m' : Marker) (n : ℕ) → HasTaken t m m' n → length (log_of m'.logs n) ≡ 0 → HasTaken t m m' (n + 1)
none_taken t m m' n p none = record {
  stands = p.stands;
  running = p.running;
  snapshots = p.snapshots;
  emptied = λ k h. elim (cases_eq k n) [
    | inl e ↦ ap (log_of m'.logs) e ∙ nil_from_length (log_of m'.logs n) none
    | inr e ↦ p.emptied k (omega (arith, h, e))
  ];
  len = p.len;
  scanned = p.scanned;
  scans = p.scans;
  waiting = p.waiting;
  same = p.same;
}

pub drained_keeps : (t : Table) (m m' : Marker) (k : ℕ) (ls : List (List ℕ)) (log : List ℕ) → MarkerStands t m → m.running ≡ true
    → ls ≡ set m.logs k [] → log ≡ log_of m.logs k → SameRoles (with_logs m ls) m' → m'.grey.scanned ≡ m.grey.scanned
    → KeepsPlace m.grey m'.grey → m'.logs ≡ ls → m'.waiting ≡ m.waiting → MarksWanted t (Contains log) (with_logs m ls) m'
    → KeepsSnapshots t m m'
drained_keeps t m m' k ls log st run drained own same scanned place logs waiting marks =
    taken_keeps t m m' k st run (record { previous = same.previous; tams = same.tams; running = same.running; room = same.room }) scanned
    place (logs ∙ drained) waiting
    (subst (λ (x : List ℕ). MarksWanted t (Contains x) m m') own (record { stays = marks.stays; only = marks.only; each = marks.each }))

-- an old address enters a log
pub saved_stands : (t : Table) (m : Marker) (k at : ℕ) (ls : List (List ℕ)) → MarkerStands t m → m.running ≡ true
    → below_next t m.tams at ≡ true → IsKept t m at → ls ≡ set m.logs k (log_of m.logs k ++ at ∷ []) → MarkerStands t (with_logs m ls)
saved_stands t m k at ls st run below kept e =
    let f = st.follows run in
    let same : SameRoles m (with_logs m ls) = record { previous = refl; tams = refl; running = refl; room = refl } in
    let came : (a : ℕ) → Contains (untaken (with_logs m ls)) a → Contains (untaken m) a ⊎ (a ≡ at) =
    λ a l. only_logged (all_logs m m.logs) (suc k) at a (subst (λ (x : List (List ℕ)). Contains (logged (all_logs m x)) a) e l) in
    record {
      previous = st.previous;
      next = st.next;
      scanned = st.scanned;
      finger = st.finger;
      newer = st.newer;
      follows = λ _. record {
        closed = f.closed;
        marked = λ a h. same_kept t m (with_logs m ls) a same (f.marked a h);
        logged_kept = λ a l. same_kept t m (with_logs m ls) a same
            (elim (came a l) [ inl was ↦ f.logged_kept a was | inr new ↦ subst (λ (x : ℕ). IsKept t m x) (sym new) kept ]);
        logged_below = λ a l. elim (came a l) [
          | inl was ↦ f.logged_below a was
          | inr new ↦ ap (λ (x : ℕ). below_next t m.tams x) new ∙ below
        ];
      };
      idle = λ off. absurd (let g = run in cc);
      none_wait = λ off. absurd (let g = run in cc);
      scanned_marked = st.scanned_marked;
      counted = st.counted;
      part = st.part;
      live = st.live;
      live_next = st.live_next;
    }

pub is_saved : (t : Table) (m : Marker) (k at : ℕ) (w : Option ℕ) (ls : List (List ℕ)) → k < length m.logs
    → w ≡ Some at → below_next t m.tams at ≡ true → ls ≡ set m.logs k (log_of m.logs k ++ at ∷ [])
    → IsSaved (marking_of t m) (marking_of t (with_logs m ls)) w
is_saved t m k at w ls known is below e = record {
  old = λ a. refl;
  marked = λ a. refl;
  scanned = λ a. refl;
  done = λ a. refl;
  kept = λ a l. subst (λ (x : List (List ℕ)). Contains (logged (all_logs m x)) a) (sym e)
      (stays_logged (all_logs m m.logs) (suc k) at a (omega (arith, known)) l);
  saved = λ a h _. let same : at ≡ a = cc in
      subst (λ (x : ℕ). Contains (logged (all_logs m ls)) x) same
      (subst (λ (x : List (List ℕ)). Contains (logged (all_logs m x)) at) (sym e)
      (new_logged (all_logs m m.logs) (suc k) at (omega (arith, known))));
  only = λ a l. elim (only_logged (all_logs m m.logs) (suc k) at a
      (subst (λ (x : List (List ℕ)). Contains (logged (all_logs m x)) a) e l)) [
        | inl was ↦ inl was
        | inr new ↦ inr (is ∙ ap Some (sym new), ap (λ (x : ℕ). below_next t m.tams x) new ∙ below)
      ];
}
