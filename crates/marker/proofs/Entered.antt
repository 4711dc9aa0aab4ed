-- An object is scanned: it enters the scanned ones, and then its targets are marked. Or it is scanned in part, and stays held.
use Rattle.std.proofs.Common.{◌≡◌, ◌≢◌, ◌≤◌, ◌-◌, ℕ, ◌<◌, Bool, true, false, List, Option, Some, length, set, inl, inr, refl}
use Rattle.std.proofs.Common.{sym, ap, ◌∙◌, subst, arith}
use Rattle.std.proofs.Common.{length-set, Contains, slice_get}
use Rattle.std.proofs.lemmas.Bool.{cases_eq}
use Rattle.std.proofs.lemmas.Option.{slice_get_within}
use Rattle.heap_model.specs.Heap.{Stored}
use Rattle.heap_model.specs.Marking.{LeadsOn, IsTarget, MarksMore}
use Rattle.regions.specs.Table.{Table, pointers_at}
use Rattle.mark_bitmap.specs.Marks.{is_marked, marked_count}
use Rattle.mark_bitmap.specs.Tops.{Tops, below_next}
use Rattle.mark_bitmap.specs.Grey.{Scans, HasFingers, is_grey}
use Rattle.mark_bitmap.proofs.Counts.{marked_count-set}
use Rattle.marker.specs.Views.{heap_of, marking_of, untaken}
use Rattle.marker.specs.Stands.{MarkerStands, IsKept}
use Rattle.marker.specs.Roots.{IsInSpan}
use Rattle.marker.specs.Steps.{KeepsSnapshots, SameRoles, MarksWanted, Grows}
use Rattle.marker.specs.declared.marker.Marker.{Marker}
use Rattle.marker.proofs.Views.{kept_object, object_pointers_at, same_untaken}
use Rattle.marker.proofs.Reached.{Reached, stands_step, marked_set, set_more, same_trans}
use Rattle.marker.proofs.Done.{done_whole, done_held, done_other}
use Rattle.marker.proofs.Scanned.{same_snapshots, grey_is, with_scan, grey_within}

pub scan_stands : (t : Table) (m : Marker) (object : ℕ) (g : Scans) → MarkerStands t m → m.running ≡ true
    → is_grey m.bitmaps.next m.grey object ≡ true → g.scanned ≡ set m.grey.scanned object true → g.looked ≡ 0 → HasFingers m.bitmaps.next g
    → MarkerStands t (with_scan m g)
scan_stands t m object g st run grey scanned whole finger =
    let is = grey_is m.bitmaps.next m.grey object grey in
    let inside : object < length m.grey.scanned = grey_within t m object st grey in
    stands_step t m (with_scan m g) st run (record { previous = refl; tams = refl; running = refl; room = refl })
    (ap length scanned ∙ length-set m.grey.scanned object true) refl (λ a c. c) st.next finger (λ a c. inl c)
    (λ a c. elim (marked_set m.grey.scanned object a (ap (λ (b : List Bool). is_marked b a) (sym scanned) ∙ c)) [
      | inl was ↦ st.scanned_marked run a was
      | inr same ↦ ap (is_marked m.bitmaps.next) same ∙ is.0
    ])
    (omega (arith, st.counted run, marked_count-set m.grey.scanned object inside is.1, ap marked_count scanned))
    refl st.live_next (λ a _. omega (arith, whole))

-- an object has entered the scanned ones
pub record Entered (t : Table) (object : ℕ) (m m' : Marker) : Type 0 where
  pub stands : MarkerStands t m'
  pub next : m'.bitmaps.next ≡ m.bitmaps.next
  pub whole : m'.grey.looked ≡ 0
  pub scanned : m'.grey.scanned ≡ set m.grey.scanned object true
  pub same : SameRoles m m'
  pub logs : m'.logs ≡ m.logs
  pub waiting : m'.waiting ≡ m.waiting

-- where the scan of the held object goes on, or ends: from there on its pointers aren't done
abbrev pub left_pointers : Table → Marker → ℕ → ℕ → ℕ → Type 0
left_pointers t m object to = IsInSpan (pointers_at t object) (m.grey.looked - 1) to

-- the marks are those of before, and then what pointers of a grey object lead to is marked
pub record MarksTargets (t : Table) (object to : ℕ) (m m'' : Marker) : Type 0 where
  pub marks : MarksWanted t (left_pointers t m object to) m m''
  pub below : (a : ℕ) → is_marked m''.bitmaps.next a ≡ true → below_next t m''.tams a ≡ true
  pub same : SameRoles m m''
  pub logs : m''.logs ≡ m.logs
  pub waiting : m''.waiting ≡ m.waiting

pub marks_targets : (t : Table) (object to : ℕ) (m m' m'' : Marker) → m'.bitmaps.next ≡ m.bitmaps.next → SameRoles m m' → m'.logs ≡ m.logs
    → m'.waiting ≡ m.waiting → Reached t (left_pointers t m object to) m' m'' → MarksTargets t object to m m''
marks_targets t object to m m' m'' next same logs waiting p =
    let before : (a : ℕ) → is_marked m'.bitmaps.next a ≡ is_marked m.bitmaps.next a = λ a. ap (λ (b : List Bool). is_marked b a) next in
    record {
      marks = record {
        stays = λ a k. p.marks.stays a (before a ∙ k);
        only = λ a k. elim (p.marks.only a k) [ inl was ↦ inl (sym (before a) ∙ was) | inr w ↦ inr w ];
        each = λ a w below. p.marks.each a w (ap (λ (x : Tops). below_next t x a) same.tams ∙ below);
      };
      below = p.stands.next.below;
      same = same_trans m m' m'' same p.same;
      logs = p.logs ∙ logs;
      waiting = p.waiting ∙ waiting;
    }

module _ (t : Table) (m : Marker) (object : ℕ) (st : MarkerStands t m) (run : m.running ≡ true)
    (grey : is_grey m.bitmaps.next m.grey object ≡ true) (held : m.grey.held ≡ Some object) (to : ℕ) (m'' : Marker)
    (p : MarksTargets t object to m m'') (roots : List (Option ℕ)) where
  is : (is_marked m.bitmaps.next object ≡ true) × (is_marked m.grey.scanned object ≡ false)
  is = grey_is m.bitmaps.next m.grey object grey

  kept : IsKept t m object
  kept = (st.follows run).marked object is.0

  pointers : pointers_at t object ≡ kept.object.pointers
  pointers = object_pointers_at t object kept.object (kept_object t m.tams m.bitmaps.previous object kept.object kept.is)

  old_same : (a : ℕ) → below_next t m''.tams a ≡ below_next t m.tams a
  old_same a = ap (λ (x : Tops). below_next t x a) p.same.tams

  target : (a : ℕ) → is_marked m''.bitmaps.next a ≡ true → left_pointers t m object to a → IsTarget (heap_of t roots m) (marking_of t m) a
  target a marked w = record {
    from = object;
    marked = is.0;
    grey = is.1;
    points = record { object = kept.object; at = kept.is; field = w.place; is = rw pointers at w.is };
    old = sym (old_same a) ∙ p.below a marked;
  }

  -- what a pointer of it that isn't done leads to is among them
  on : (a b : ℕ) → a ≡ object → (l : LeadsOn (heap_of t roots m) (marking_of t m) a b) → l.points.field < to
      → left_pointers t m object to b
  on a b same l before =
      let q = l.points in
      let object_is : q.object ≡ kept.object = let there = q.at in let f = kept.is in
      let both : Some q.object ≡ Some kept.object = sym there ∙ ap (λ (x : ℕ). (heap_of t roots m).kept x) same ∙ f in cc in
      record {
        place = q.field;
        from_on = omega (arith, l.left, done_held m.grey object a held same);
        before = before;
        is = rw pointers (ap (λ (x : Stored). slice_get x.pointers q.field) (sym object_is) ∙ q.is);
      }

  -- it is scanned whole
  pub scan_more : m''.grey.scanned ≡ set m.grey.scanned object true → m''.grey.looked ≡ 0 → length (pointers_at t object) ≤ to
      → MarksMore (heap_of t roots m) (marking_of t m) (marking_of t m'')
  scan_more scanned whole all =
      let left : untaken m'' ≡ untaken m = same_untaken m m'' p.waiting p.logs in
      record {
        old = old_same;
        marked = p.marks.stays;
        newly_marked = λ a marked. elim (p.marks.only a marked) [ inl was ↦ inl was | inr w ↦ inr (inr (inl (target a marked w))) ];
        newly_scanned = λ a now. elim (marked_set m.grey.scanned object a (ap (λ (l : List Bool). is_marked l a) (sym scanned) ∙ now)) [
          | inl was ↦ inl was
          | inr same ↦ inr (λ b l old.
              let q = l.points in
              let here : IsKept t m a = record { object = q.object; is = q.at } in
              let words : pointers_at t a ≡ q.object.pointers =
              object_pointers_at t a q.object (kept_object t m.tams m.bitmaps.previous a q.object q.at) in
              let place : slice_get (pointers_at t object) q.field ≡ Some (Some b) =
              ap (λ (x : ℕ). slice_get (pointers_at t x) q.field) (sym same) ∙ ap (λ xs. slice_get xs q.field) words ∙ q.is in
              let inside = slice_get_within (pointers_at t object) q.field (Some b) place in
              p.marks.each b (on a b same l (omega (arith, inside, all))) old)
        ];
        newly_done = λ a b l now _. absurd (let none = done_whole m''.grey a whole in omega (arith, none, now));
        taken = λ a l. inr (subst (λ (xs : List ℕ). Contains xs a) (sym left) l);
        logged = λ a l. subst (λ (xs : List ℕ). Contains xs a) left l;
      }

  -- it is scanned in part, up to a place
  pub look_more : m''.grey.scanned ≡ m.grey.scanned → m''.grey.held ≡ Some object → m''.grey.looked - 1 ≤ to
      → MarksMore (heap_of t roots m) (marking_of t m) (marking_of t m'')
  look_more scanned still up =
      let left : untaken m'' ≡ untaken m = same_untaken m m'' p.waiting p.logs in
      record {
        old = old_same;
        marked = p.marks.stays;
        newly_marked = λ a marked. elim (p.marks.only a marked) [ inl was ↦ inl was | inr w ↦ inr (inr (inl (target a marked w))) ];
        newly_scanned = λ a now. inl (ap (λ (l : List Bool). is_marked l a) (sym scanned) ∙ now);
        newly_done = λ a b l now old. elim (cases_eq a object) [
          | inl same ↦ p.marks.each b (on a b same l (omega (arith, now, done_held m''.grey object a still same, up))) old
          | inr other ↦ absurd (let none = done_other m''.grey object a still other in omega (arith, none, now))
        ];
        taken = λ a l. inr (subst (λ (xs : List ℕ). Contains xs a) (sym left) l);
        logged = λ a l. subst (λ (xs : List ℕ). Contains xs a) left l;
      }

pub scan_keeps : (t : Table) (m m' m'' : Marker) (object to : ℕ) → MarkerStands t m → m.running ≡ true
    → is_grey m.bitmaps.next m.grey object ≡ true → m.grey.held ≡ Some object → Entered t object m m'
    → Reached t (left_pointers t m object to) m' m'' → length (pointers_at t object) ≤ to → KeepsSnapshots t m m''
scan_keeps t m m' m'' object to st run grey held e p all =
    let q = marks_targets t object to m m' m'' e.next e.same e.logs e.waiting p in
    same_snapshots t m m'' q.same
    (λ roots. scan_more t m object st run grey held to m'' q roots (p.scanned ∙ e.scanned) (p.place.looked ∙ e.whole) all)

pub scan_grows : (t : Table) (m m' m'' : Marker) (object to : ℕ) → Entered t object m m'
    → Reached t (left_pointers t m object to) m' m'' → Grows m m''
scan_grows t m m' m'' object to e p =
    let q = marks_targets t object to m m' m'' e.next e.same e.logs e.waiting p in
    record {
      marked = q.marks.stays;
      scanned = λ a k. ap (λ (b : List Bool). is_marked b a) (p.scanned ∙ e.scanned) ∙ set_more m.grey.scanned object a k;
    }

-- ---- in part
-- the marker with another grey set
abbrev pub with_grey : Marker → Scans → Marker
with_grey m g = record {
  bitmaps = m.bitmaps;
  tams = m.tams;
  grey = g;
  logs = m.logs;
  running = m.running;
  scans = m.scans;
  live = m.live;
  waiting = m.waiting;
}

pub look_stands : (t : Table) (m : Marker) (object words : ℕ) (g : Scans) → MarkerStands t m → m.running ≡ true
    → m.grey.held ≡ Some object → words ≤ length (pointers_at t object) → g ≡ record m.grey { looked = words }
    → HasFingers m.bitmaps.next g → MarkerStands t (with_grey m g)
look_stands t m object words g st run held fewer is finger =
    let scanned : g.scanned ≡ m.grey.scanned = ap (λ (x : Scans). x.scanned) is in
    let looked : g.looked ≡ words = ap (λ (x : Scans). x.looked) is in
    stands_step t m (with_grey m g) st run (record { previous = refl; tams = refl; running = refl; room = refl })
    (ap length scanned) refl (λ a c. c) st.next finger (λ a c. inl c)
    (λ a c. st.scanned_marked run a (ap (λ (b : List Bool). is_marked b a) (sym scanned) ∙ c))
    (st.counted run ∙ ap marked_count (sym scanned)) refl st.live_next
    (λ a now.
    let same : a ≡ object = let both : Some a ≡ Some object = sym now ∙ ap (λ (x : Scans). x.held) is ∙ held in cc in
    omega (arith, looked, fewer, ap (λ (x : ℕ). length (pointers_at t x)) same))

pub look_keeps : (t : Table) (m m'' : Marker) (object words : ℕ) (g : Scans) → MarkerStands t m → m.running ≡ true
    → is_grey m.bitmaps.next m.grey object ≡ true → m.grey.held ≡ Some object → g ≡ record m.grey { looked = words } → words ≢ 0
    → Reached t (left_pointers t m object (words - 1)) (with_grey m g) m'' → KeepsSnapshots t m m''
look_keeps t m m'' object words g st run grey held is some p =
    let same : SameRoles m (with_grey m g) = record { previous = refl; tams = refl; running = refl; room = refl } in
    let q = marks_targets t object (words - 1) m (with_grey m g) m'' refl same refl refl p in
    let looked : g.looked ≡ words = ap (λ (x : Scans). x.looked) is in
    same_snapshots t m m'' q.same
    (λ roots. look_more t m object st run grey held (words - 1) m'' q roots (p.scanned ∙ ap (λ (x : Scans). x.scanned) is)
    (p.place.held (λ none. some (sym looked ∙ none)) ∙ ap (λ (x : Scans). x.held) is ∙ held)
    (omega (arith, p.place.looked, looked)))
