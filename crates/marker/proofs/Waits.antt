-- Roots that wait are copied, and taken.
use Rattle.std.proofs.Common.{◌≡◌, ◌+◌, ◌≤◌, ◌∷◌, ◌++◌, ◌∙◌, inl, inr, ℕ, Bool, true, List, [], Option, Some, None, length, get_or}
use Rattle.std.proofs.Common.{refl, sym, ap, subst, arith, Contains}
use Rattle.std.proofs.lemmas.List.{length-append}
use Rattle.std.proofs.lemmas.List.Elements.{Contains-append_left, Contains-append_right, Contains-append_cases, Contains-push}
use Rattle.std.proofs.lemmas.List.Elements.{Contains-push_cases}
use Rattle.std.proofs.lemmas.Option.{slice_get_within}
use Rattle.heap_model.specs.Marking.{MarksMore}
use Rattle.root_table.specs.Roots.{AreNil, IsNextNamed}
use Rattle.regions.specs.Table.{Table}
use Rattle.mark_bitmap.specs.Marks.{is_marked}
use Rattle.mark_bitmap.specs.Tops.{Tops, below_next}
use Rattle.mark_bitmap.specs.Grey.{KeepsPlace, done_in}
use Rattle.satb_log.specs.Logs.{logged}
use Rattle.marker.specs.Views.{heap_of, marking_of, untaken}
use Rattle.marker.specs.Waiting.{Waiting, with_root}
use Rattle.marker.specs.Roots.{AreHeldBy}
use Rattle.marker.specs.Stands.{MarkerStands, IsKept}
use Rattle.marker.specs.Steps.{KeepsSnapshots, SameRoles, MarksWanted}
use Rattle.marker.specs.declared.marker.Marker.{Marker}
use Rattle.marker.proofs.Views.{same_untaken}
use Rattle.marker.proofs.Begun.{with_waiting, waiting_kept}
use Rattle.marker.proofs.Reached.{stands_step, same_trans, among_split, among_right, among_wider, among_same, named_word}
use Rattle.marker.proofs.Scanned.{same_snapshots}
use Rattle.marker.proofs.Done.{done_same, none_newly, place_same, place_trans}
use Rattle.marker.proofs.Marking.{snapshots_trans}

-- ---- roots are copied
-- what the first n roots hold waits, no more than n of them, and there is room for as many as before
pub record IsCopied (words : List (Option ℕ)) (n spare : ℕ) (w : Waiting) : Type 0 where
  pub held : AreHeldBy words n w.addresses
  pub few : length w.addresses ≤ n
  pub room : w.room ≡ spare

pub copied_none : (words : List (Option ℕ)) (w : Waiting) → w.addresses ≡ [] → IsCopied words 0 w.room w
copied_none words w none = record {
  held = record {
    each = λ a i. absurd (let front = i.front in omega arith);
    only = λ a c. absurd (let inside = c.1 in let l = ap (λ (xs : List ℕ). length xs) none in omega arith);
  };
  few = omega (arith, ap (λ (xs : List ℕ). length xs) none);
  room = refl;
}

-- with what the next named root holds
pub copied_next : (words : List (Option ℕ)) (from place room a : ℕ) (value : Option ℕ) (w w' : Waiting) → IsNextNamed words from place
    → value ≡ get_or words place None → value ≡ Some a → w' ≡ with_root w a → IsCopied words from room w
    → IsCopied words (place + 1) room w'
copied_next words from place room a value w w' n is some e c =
    let word = named_word words from place value n is in
    let came : w'.addresses ≡ w.addresses ++ a ∷ [] = ap (λ (x : Waiting). x.addresses) e in
    record {
      held = record {
        each = λ b i. subst (λ (xs : List ℕ). Contains xs b) (sym came) (elim (among_split words place b value word i) [
          | inl before ↦ Contains-append_left w.addresses (a ∷ []) b (c.held.each b (among_same words from place b n.nil_before before))
          | inr last ↦ let same : a ≡ b = cc in subst (λ (x : ℕ). Contains (w.addresses ++ a ∷ []) x) same (Contains-push w.addresses a)
        ]);
        only = λ b l. elim (Contains-push_cases w.addresses a b (subst (λ (xs : List ℕ). Contains xs b) came l)) [
          | inl was ↦ among_wider words from (place + 1) b (let le = n.from_on in omega arith) (c.held.only b was)
          | inr same ↦ among_right words place b value word (some ∙ ap Some same)
        ];
      };
      few = let le = n.from_on in let few = c.few in
          omega (arith, ap (λ (xs : List ℕ). length xs) came, length-append w.addresses (a ∷ []));
      room = ap (λ (x : Waiting). x.room) e ∙ c.room;
    }

-- up to the last place, where only nil is after
pub copied_all : (words : List (Option ℕ)) (from : ℕ) (xs : List ℕ) → AreNil words from (length words) → AreHeldBy words from xs
    → AreHeldBy words (length words) xs
copied_all words from xs nil held = record {
  each = λ a i. held.each a (among_same words from (length words) a nil i);
  only = λ a l. let i = held.only a l in record { place = i.place; front = slice_get_within words i.place (Some a) i.is; is = i.is };
}

-- ---- roots are taken
-- so many roots were taken, and what they name is marked
pub record HasTakenRoots (t : Table) (m m' : Marker) (n : ℕ) : Type 0 where
  pub stands : MarkerStands t m'
  pub running : m'.running ≡ true
  pub snapshots : KeepsSnapshots t m m'
  pub count : length m.waiting.addresses ≡ length m'.waiting.addresses + n
  pub marked : (a : ℕ) → is_marked m.bitmaps.next a ≡ true → is_marked m'.bitmaps.next a ≡ true
  pub scanned : m'.grey.scanned ≡ m.grey.scanned
  pub place : KeepsPlace m.grey m'.grey
  pub scans : m'.scans ≡ m.scans
  pub same : SameRoles m m'
  pub logs : m'.logs ≡ m.logs

pub no_root_taken : (t : Table) (m : Marker) → MarkerStands t m → m.running ≡ true → HasTakenRoots t m m 0
no_root_taken t m st run = record {
  stands = st;
  running = run;
  snapshots = λ s g roots shows keeps. keeps;
  count = omega arith;
  marked = λ a k. k;
  scanned = refl;
  place = place_same m.grey;
  scans = refl;
  same = record { previous = refl; tams = refl; running = refl; room = refl };
  logs = refl;
}

module _ (t : Table) (m : Marker) (w : Waiting) (at : ℕ) (st : MarkerStands t m) (run : m.running ≡ true)
    (e : m.waiting ≡ with_root w at) where
  came : m.waiting.addresses ≡ w.addresses ++ at ∷ []
  came = ap (λ (x : Waiting). x.addresses) e

  -- what waits without the last one waited with it
  left_before : (a : ℕ) → Contains (untaken (with_waiting m w)) a → Contains (untaken m) a
  left_before a l = elim (Contains-append_cases w.addresses (logged m.logs) a l) [
    | inl waits ↦ Contains-append_left m.waiting.addresses (logged m.logs) a
        (subst (λ (xs : List ℕ). Contains xs a) (sym came) (Contains-append_left w.addresses (at ∷ []) a waits))
    | inr logs ↦ Contains-append_right m.waiting.addresses (logged m.logs) a logs
  ]

  last_before : Contains (untaken m) at
  last_before = Contains-append_left m.waiting.addresses (logged m.logs) at
      (subst (λ (xs : List ℕ). Contains xs at) (sym came) (Contains-push w.addresses at))

  popped_roles : SameRoles m (with_waiting m w)
  popped_roles = record { previous = refl; tams = refl; running = refl; room = sym (ap (λ (x : Waiting). x.room) e) }

  pub popped_stands : MarkerStands t (with_waiting m w)
  popped_stands = stands_step t m (with_waiting m w) st run popped_roles refl refl left_before
      st.next (st.finger run) (λ a marked. inl marked) (st.scanned_marked run) (st.counted run) refl st.live_next (st.part run)

  pub popped_kept : IsKept t (with_waiting m w) at
  popped_kept = waiting_kept t m w at ((st.follows run).logged_kept at last_before)

  pub popped_below : below_next t m.tams at ≡ true
  popped_below = (st.follows run).logged_below at last_before

  module _ (m' : Marker) (same : SameRoles (with_waiting m w) m') (scanned : m'.grey.scanned ≡ m.grey.scanned)
      (place : KeepsPlace m.grey m'.grey) (logs : m'.logs ≡ m.logs) (waiting : m'.waiting ≡ w)
      (marks : MarksWanted t (λ a. at ≡ a) (with_waiting m w) m') where
    taken_roles : SameRoles m m'
    taken_roles = same_trans m (with_waiting m w) m' popped_roles same

    left : untaken m' ≡ untaken (with_waiting m w)
    left = same_untaken (with_waiting m w) m' waiting logs

    root_more : (roots : List (Option ℕ)) → MarksMore (heap_of t roots m) (marking_of t m) (marking_of t m')
    root_more roots = record {
      old = λ a. ap (λ (x : Tops). below_next t x a) same.tams;
      marked = marks.stays;
      newly_marked = λ a now. elim (marks.only a now) [
        | inl was ↦ inl was
        | inr w ↦ inr (inl (subst (λ (x : ℕ). Contains (untaken m) x) w last_before))
      ];
      newly_scanned = λ a now. inl (ap (λ (b : List Bool). is_marked b a) (sym scanned) ∙ now);
      newly_done = λ a b p now _. absurd (none_newly (heap_of t roots m) (marking_of t m) (done_in m'.grey)
          (done_same m.grey m'.grey place) a b p now);
      taken = λ a l. elim (Contains-append_cases m.waiting.addresses (logged m.logs) a l) [
        | inl waits ↦ elim (Contains-push_cases w.addresses at a (subst (λ (xs : List ℕ). Contains xs a) came waits)) [
          | inl still ↦ inr (subst (λ (xs : List ℕ). Contains xs a) (sym left) (Contains-append_left w.addresses (logged m.logs) a still))
          | inr last ↦ inl (marks.each a last ((st.follows run).logged_below a l))
        ]
        | inr logged_still ↦
            inr (subst (λ (xs : List ℕ). Contains xs a) (sym left) (Contains-append_right w.addresses (logged m.logs) a logged_still))
      ];
      logged = λ a l. left_before a (subst (λ (xs : List ℕ). Contains xs a) left l);
    }

    root_keeps : KeepsSnapshots t m m'
    root_keeps = same_snapshots t m m' taken_roles root_more

    -- one root more
    pub root_taken : (m0 : Marker) (n : ℕ) → HasTakenRoots t m0 m n → MarkerStands t m' → m'.scans ≡ m.scans
        → HasTakenRoots t m0 m' (n + 1)
    root_taken m0 n p stands scans = record {
      stands = stands;
      running = same.running ∙ run;
      snapshots = snapshots_trans t m0 m m' p.same p.snapshots root_keeps;
      count = omega (
        arith,
        p.count,
        ap (λ (xs : List ℕ). length xs) came,
        length-append w.addresses (at ∷ []),
        ap (λ (x : Waiting). length x.addresses) waiting,
      );
      marked = λ a k. marks.stays a (p.marked a k);
      scanned = scanned ∙ p.scanned;
      place = place_trans m0.grey m.grey m'.grey p.place place;
      scans = scans ∙ p.scans;
      same = same_trans m0 m m' p.same taken_roles;
      logs = logs ∙ p.logs;
    }
