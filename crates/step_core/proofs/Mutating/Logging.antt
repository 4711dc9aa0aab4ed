-- What saving a pointer does to the marker: its log gets the pointer, and is taken if it is full.
use Rattle.std.proofs.Common.{◌≡◌, ◌≢◌, ◌<◌, ◌≤◌, ◌∙◌, ℕ, Bool, true, false, List, [], Option, Some, None, length, get_or, set, refl, sym}
use Rattle.std.proofs.Common.{ap, subst, arith, inl, inr, ◌==◌, Contains, slice_set}
use Rattle.std.proofs.lemmas.Bool.{cases_eq}
use Rattle.std.proofs.lemmas.Grind.{common_steps}
use Rattle.std.proofs.lemmas.Bool.Decides.{nat_tests}
use Rattle.std.proofs.lemmas.List.{get_or-set_same, get_or-set_other, length-set}
use Rattle.heap_model.specs.Heap.{Stored}
use Rattle.heap_model.specs.Marking.{IsSaved}
use Rattle.regions.specs.Table.{Table, object_at, put_object, set_pointer, set_pointer_of}
use Rattle.satb_log.specs.Logs.{log_of}
use Rattle.mark_bitmap.specs.Tops.{is_below}
use Rattle.marker.specs.Views as views
use Rattle.marker.specs.Stands.{MarkerStands}
use Rattle.marker.specs.Steps.{SameRoles, HasTakenLog, KeepsSnapshots, MarksWanted, TakesFull, Overwrites, saved}
use Rattle.marker.specs.declared.marker.Marker.{Marker}
use Rattle.step_core.specs.Stands.{CoreState, IsCore}

-- a pointer was saved in a mutator's log
pub record Saves (t : Table) (mutator : ℕ) (was : Option ℕ) (m m' : Marker) : Type 0 where
  pub after : m' ≡ saved t m mutator was
  pub saved : IsSaved (views.marking_of t m) (views.marking_of t m') was
  pub same : SameRoles m m'
  pub stands : MarkerStands t m'
  pub mutators : length m'.logs ≡ length m.logs
  pub most : length (log_of m'.logs mutator) ≤ 8
  pub others : (other : ℕ) → other ≢ mutator → log_of m'.logs other ≡ log_of m.logs other

-- and the log was taken
pub record TakesLog (t : Table) (mutator : ℕ) (m m' : Marker) : Type 0 where
  pub took : HasTakenLog t mutator m m'
  pub snapshots : KeepsSnapshots t m m'
  pub stands : MarkerStands t m'

pub saves : {t : Table} {mutator : ℕ} {was : Option ℕ} {m m' : Marker} → m' ≡ saved t m mutator was
    → IsSaved (views.marking_of t m) (views.marking_of t m') was → SameRoles m m' → MarkerStands t m' → length m'.logs ≡ length m.logs
    → length (log_of m'.logs mutator) ≤ 8 → ((other : ℕ) → other ≢ mutator → log_of m'.logs other ≡ log_of m.logs other)
    → Saves t mutator was m m'
saves a b c d e f g = record { after = a; saved = b; same = c; stands = d; mutators = e; most = f; others = g }

pub takes_log : {t : Table} {mutator : ℕ} {m m' : Marker} → m'.logs ≡ slice_set m.logs mutator []
    → MarksWanted t (Contains (log_of m.logs mutator)) m m' → SameRoles m m' → m'.grey.scanned ≡ m.grey.scanned → m'.scans ≡ m.scans
    → m'.waiting ≡ m.waiting → KeepsSnapshots t m m' → MarkerStands t m' → TakesLog t mutator m m'
takes_log a b c d e w f g =
    record { took = record { emptied = a; marks = b; same = c; scanned = d; scans = e; waiting = w }; snapshots = f; stands = g }

pub same_roles : (m : Marker) → SameRoles m m
same_roles m = record { previous = refl; tams = refl; running = refl; room = refl }

pub roles_trans : (m m' m'' : Marker) → SameRoles m m' → SameRoles m' m'' → SameRoles m m''
roles_trans m m' m'' p q = record {
  previous = q.previous ∙ p.previous;
  tams = q.tams ∙ p.tams;
  running = q.running ∙ p.running;
  room = q.room ∙ p.room;
}

-- ---- each log has room for one more
pub record HaveRoom (before after : Marker) : Type 0 where
  pub count : length after.logs ≡ length before.logs
  pub room : (mutator : ℕ) → length (log_of after.logs mutator) < 8

has_room : (n : ℕ) → n ≤ 8 → (n == 8) ≡ false → n < 8
has_room n le e = grind (arith, common_steps, nat_tests)

module _ (k c : CoreState) (e : k ≡ c) (core : IsCore k) (mutator : ℕ) (was : Option ℕ) (m : Marker)
    (s : Saves k.table mutator was k.marker m) where
  -- no log is full after one that isn't
  pub saved_room : (length (log_of m.logs mutator) == 8) ≡ false → HaveRoom k.marker m
  saved_room left = record {
    count = s.mutators;
    room = λ n. elim (cases_eq n mutator) [
      | inl q ↦ subst (λ (i : ℕ). length (log_of m.logs i) < 8) (sym q) (has_room (length (log_of m.logs mutator)) s.most left)
      | inr ne ↦ let same = ap (λ (l : List ℕ). length l) (s.others n ne) in let old = core.layers.room n in omega arith
    ];
  }

  -- nor after the full one was taken
  pub taken_room : mutator < c.config.mutators → (m2 : Marker) → m2.logs ≡ slice_set m.logs mutator [] → HaveRoom k.marker m2
  taken_room known m2 is =
      let known' : mutator < k.config.mutators = subst (λ (d : CoreState). mutator < d.config.mutators) (sym e) known in
      let logs = core.layers.logs in
      let count = s.mutators in
      let inside : mutator < length m.logs = omega arith in
      record {
        count = ap (λ (ls : List (List ℕ)). length ls) is ∙ length-set m.logs mutator [] ∙ s.mutators;
        room = λ n. elim (cases_eq n mutator) [
          | inl q ↦
              let none = ap (λ (ls : List (List ℕ)). length (get_or ls n [])) is
              ∙ ap (λ (i : ℕ). length (get_or (set m.logs mutator []) i [])) q
              ∙ ap (λ (l : List ℕ). length l) (get_or-set_same m.logs mutator [] [] inside) in
              omega arith
          | inr ne ↦
              let same = ap (λ (ls : List (List ℕ)). length (get_or ls n [])) is
              ∙ ap (λ (l : List ℕ). length l) (get_or-set_other m.logs mutator n [] [] ne ∙ s.others n ne) in
              let old = core.layers.room n in omega arith
        ];
      }

-- ---- what it does to the marker
-- while marking doesn't run, nothing
pub idle_overwrites : (k c : CoreState) → k ≡ c → (mutator : ℕ) (w : Option ℕ) → k.marker.running ≡ false
    → Overwrites c.marker.running c.table mutator w c.marker k.marker
idle_overwrites k c e mutator w idle = subst (λ (d : CoreState). Overwrites d.marker.running d.table mutator w d.marker k.marker) e
    (subst (λ (b : Bool). Overwrites b k.table mutator w k.marker k.marker) (sym idle) refl)

pub idle_after : (c c' : CoreState) (mutator : ℕ) (w : Option ℕ) → c.marker.running ≡ false
    → Overwrites c.marker.running c.table mutator w c.marker c'.marker → c'.marker.running ≡ false
idle_after c c' mutator w idle h = ap (λ (m : Marker). m.running)
    (subst (λ (b : Bool). Overwrites b c.table mutator w c.marker c'.marker) idle h) ∙ idle

module _ (k c : CoreState) (e : k ≡ c) (mutator : ℕ) (w : Option ℕ) (run : k.marker.running ≡ true) (m m' : Marker)
    (is : m ≡ saved k.table k.marker mutator w) where
  overwrites : TakesFull (length (log_of m.logs mutator) == 8) k.table mutator m m'
      → Overwrites c.marker.running c.table mutator w c.marker m'
  overwrites taken =
      let all : TakesFull (length (log_of (saved k.table k.marker mutator w).logs mutator) == 8) k.table
      mutator (saved k.table k.marker mutator w) m'
      = subst (λ (x : Marker). TakesFull (length (log_of x.logs mutator) == 8) k.table mutator x m') is taken in
      let on : Overwrites k.marker.running k.table mutator w k.marker m' =
      subst (λ (b : Bool). Overwrites b k.table mutator w k.marker m') (sym run) all in
      subst (λ (d : CoreState). Overwrites d.marker.running d.table mutator w d.marker m') e on

  -- the log is full, and taken
  pub overwrites_full : (length (log_of m.logs mutator) == 8) ≡ true → HasTakenLog k.table mutator m m'
      → Overwrites c.marker.running c.table mutator w c.marker m'
  overwrites_full full taken = overwrites (subst (λ (b : Bool). TakesFull b k.table mutator m m') (sym full) taken)

  -- the log has room still
  pub overwrites_room : (length (log_of m.logs mutator) == 8) ≡ false → m' ≡ m → Overwrites c.marker.running c.table mutator w c.marker m'
  overwrites_room room same = overwrites (subst (λ (b : Bool). TakesFull b k.table mutator m m') (sym room) same)

-- ---- the log was taken with the pointer stored: a region has as many words as before
size_kept : (t : Table) (a i : ℕ) (w : Option ℕ) → (set_pointer t a i w).words_per_region ≡ t.words_per_region
unfolding set_pointer put_object
size_kept t a i w = go (object_at t a)
  where
    go : (o : Option Stored) → (set_pointer_of t a i w o).words_per_region ≡ t.words_per_region
    go None = refl
    go (Some s) = refl

pub log_taken : (t t' : Table) (a i : ℕ) (w : Option ℕ) (mutator : ℕ) (m m' : Marker) → t' ≡ set_pointer t a i w
    → HasTakenLog t' mutator m m' → HasTakenLog t mutator m m'
log_taken t t' a i w mutator m m' is took = record {
  emptied = took.emptied;
  marks = record {
    stays = took.marks.stays;
    only = took.marks.only;
    each = λ b wanted below. took.marks.each b wanted
        (ap (λ (n : ℕ). is_below n m.tams.next b) (ap (λ (u : Table). u.words_per_region) is ∙ size_kept t a i w) ∙ below);
  };
  same = took.same;
  scanned = took.scanned;
  scans = took.scans;
  waiting = took.waiting;
}
