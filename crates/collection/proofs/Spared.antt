-- An object for which there is room beside two free regions, and its step.
use Rattle.std.proofs.Common.{◌≡◌, ◌*◌, ◌<◌, ◌≤◌, ◌∙◌, ℕ, Bool, Option, Some, None, refl, sym, ap, subst, arith, if◌then◌else◌}
use Rattle.std.proofs.lemmas.Bool.{lt-leb}
use Rattle.heap_model.specs.Graph.{Graph}
use Rattle.heap_model.specs.Heap.{Stored}
use Rattle.regions.specs.Table.{first_run, free_count, is_free, new_object, run_regions}
use Rattle.alloc_buffers.specs.declared.placement.Allocation.TheVariants as allocations
use Rattle.alloc_buffers.specs.Placement.{Placement, in_run, made_at, allocation_of, run_count, run_allocation_of, small_allocation_of}
use Rattle.step_core.specs.Steps.{Action, Counts, Op, Reply}
use Rattle.heap_steps.specs.declared.step.Action.TheVariants as actions
use Rattle.heap_steps.specs.declared.step.Reply.TheVariants as replies
use Rattle.graph_runs.specs.Run.{IsNew}
use Rattle.step_core.specs.Stands.{CoreState}
use Rattle.step_core.specs.Answers.{IsFull}
use Rattle.step_core.specs.Mutators.{ActsOn, HasActed, core_after, with_made}
use Rattle.collection.specs.Rooms.{FitsOpen, HasRun, IsSpared, TakesRegion}
use Rattle.collection.specs.Steps.{FitsLeavingTwo, asked_words}
use Rattle.collection.proofs.Made.{place_near, run_free, run_taken}
use Rattle.collection.proofs.Placed.{place_found}

some_of : {A : Type 0} (o : Option A) → (o ≡ None → ⊥) → (x : A) × (o ≡ Some x)
some_of None n = absurd (n refl)
some_of (Some x) n = (x, refl)

none_some : {A : Type 0} (x : A) (o : Option A) → o ≡ Some x → o ≡ None → ⊥
none_some x o e f = cc

module _ (c : CoreState) where
  made_two : (p : ℕ) (counts : Counts) (weaks : ℕ) (o : Option Placement) (x : Placement) → o ≡ Some x
      → ((s : Stored) → 2 ≤ free_count (made_at x.table x.place s)) → 2 ≤ free_count (with_made c p counts weaks o).table
  made_two p counts weaks o x e h = subst (λ (q : Option Placement). 2 ≤ free_count (with_made c p counts weaks q).table) (sym e) (h _)

  after_two : (m : ℕ) (a : Action) → IsNew a → (x : Placement) → allocation_of c.table c.buffers m (asked_words a) ≡ Some x
      → ((s : Stored) → 2 ≤ free_count (made_at x.table x.place s)) → 2 ≤ free_count (core_after c m a).table
  after_two m (actions.New to counts) new x e h = made_two _ counts 0 _ x e h
  after_two m (actions.NewWeak to counts weaks) new x e h = made_two _ counts weaks _ x e h
  after_two m _ new x e h = absurd new

  by_place : (op : Op) → IsNew op.action → (x : Placement) → allocation_of c.table c.buffers op.mutator (asked_words op.action) ≡ Some x
      → (2 ≤ free_count c.table → (s : Stored) → 2 ≤ free_count (made_at x.table x.place s)) → IsSpared c op
  by_place op new x e h = record { place = none_some x _ e; two = λ two. after_two op.mutator op.action new x e (h two) }

  -- a third region is free
  pub small_spared : (op : Op) → IsNew op.action → 2 * asked_words op.action ≤ c.table.words_per_region → 2 < free_count c.table
      → IsSpared c op
  small_spared op new small more =
      let (x, e) = some_of (allocation_of c.table c.buffers op.mutator (asked_words op.action))
      (place_found c.table (omega arith) c.buffers op.mutator (asked_words op.action) small) in
      by_place op new x e (λ two s.
      (let n = place_near c.table c.buffers op.mutator (asked_words op.action) small x e s in omega (arith, n, more)))

  -- it takes none
  pub open_spared : (op : Op) → IsNew op.action → FitsOpen c op.mutator (asked_words op.action) → IsSpared c op
  open_spared op new f = by_place op new f.place f.is (λ two s. (let e = f.free s in omega (arith, e, two)))

  -- it has a run
  pub run_spared : (op : Op) → IsNew op.action → c.table.words_per_region < 2 * asked_words op.action → HasRun c (asked_words op.action)
      → IsSpared c op
  run_spared op new large r =
      let size = asked_words op.action in
      let count = run_count c.table.words_per_region size in
      let (k, e) = some_of (first_run is_free count c.table.regions) r.run in
      by_place op new (record { place = allocations.Run k count; table = c.table; buffers = c.buffers })
      (ap (λ (q : Bool). if q then small_allocation_of c.table c.buffers op.mutator size else run_allocation_of c.table c.buffers size)
      (lt-leb (2 * size) c.table.words_per_region large) ∙ ap (in_run c.table c.buffers count) e)
      (λ two s.
      (let f = run_free c.table k count (run_regions c.table.words_per_region s count) in let g = r.two in omega (arith, f, g)))

-- ---- where it hasn't
module _ (c : CoreState) where
  made_few : (p : ℕ) (counts : Counts) (weaks : ℕ) (o : Option Placement) (x : Placement) → o ≡ Some x
      → 2 ≤ free_count (with_made c p counts weaks o).table → (s : Stored) × (2 ≤ free_count (made_at x.table x.place s))
  made_few p counts weaks o x e two = (
    new_object c.next counts.pointers weaks counts.values,
    subst (λ (q : Option Placement). 2 ≤ free_count (with_made c p counts weaks q).table) e two,
  )

  after_few : (m : ℕ) (a : Action) → IsNew a → (x : Placement) → allocation_of c.table c.buffers m (asked_words a) ≡ Some x
      → 2 ≤ free_count (core_after c m a).table → (s : Stored) × (2 ≤ free_count (made_at x.table x.place s))
  after_few m (actions.New to counts) new x e two = made_few _ counts 0 _ x e two
  after_few m (actions.NewWeak to counts weaks) new x e two = made_few _ counts weaks _ x e two
  after_few m _ new x e two = absurd new

  -- it takes one of two free regions
  pub small_full : (op : Op) → IsNew op.action → free_count c.table ≤ 2 → TakesRegion c op.mutator (asked_words op.action)
      → FitsLeavingTwo c op → ⊥
  small_full op new few takes room =
      let (x, e) = some_of (allocation_of c.table c.buffers op.mutator (asked_words op.action)) room.place in
      let (s, two) = after_few op.mutator op.action new x e room.two in
      let less = takes.less x s e in
      absurd (omega (arith, less, two, few))

  -- it has no run, or not two regions beside it
  pub run_full : (op : Op) → IsNew op.action → c.table.words_per_region < 2 * asked_words op.action
      → (HasRun c (asked_words op.action) → ⊥) → FitsLeavingTwo c op → ⊥
  run_full op new large none room = go (first_run is_free count c.table.regions) refl
    where
      size : ℕ
      size = asked_words op.action

      count : ℕ
      count = run_count c.table.words_per_region size

      placed : allocation_of c.table c.buffers op.mutator size ≡ in_run c.table c.buffers count (first_run is_free count c.table.regions)
      placed = ap (λ (q : Bool). if q then small_allocation_of c.table c.buffers op.mutator size else run_allocation_of c.table c.buffers
          size)
          (lt-leb (2 * size) c.table.words_per_region large)

      go : (o : Option ℕ) → first_run is_free count c.table.regions ≡ o → ⊥
      go None e = room.place (placed ∙ ap (in_run c.table c.buffers count) e)
      go (Some k) e =
          let at = placed ∙ ap (in_run c.table c.buffers count) e in
          let (s, two) = after_few op.mutator op.action new _ at room.two in
          let less = run_taken c.table k count s e in
          none (record { two = omega (arith, less, two); run = none_some k _ e })

-- ---- its step
acted_two : (c d : CoreState) (op : Op) → IsSpared c op → HasActed op.mutator op.action c d → 2 ≤ free_count c.table
    → 2 ≤ free_count d.table
acted_two c d op s h two =
    let e = ap (λ (x : CoreState). free_count x.table) h.core in
    let f = s.two two in
    omega (arith, e, f)

pub spared_two : (r : Reply) (c d : CoreState) (op : Op) → IsSpared c op → ActsOn op.mutator op.action r c d
    → 2 ≤ free_count c.table → 2 ≤ free_count d.table
spared_two (replies.Refused why) c d op s h two = let e = ap (λ (x : CoreState). free_count x.table) h in omega (arith, e, two)
spared_two _ c d op s h two = acted_two c d op s h two

full_place : (g : Graph) (m : ℕ) (a : Action) (c : CoreState) → IsFull g m a c → allocation_of c.table c.buffers m (asked_words a) ≡ None
full_place g m (actions.New to counts) c f = f.1
full_place g m (actions.NewWeak to counts weaks) c f = f.1
full_place g m _ c f = absurd f

-- it isn't refused as Full
pub spared_made : (g : Graph) (c : CoreState) (op : Op) → IsSpared c op → IsFull g op.mutator op.action c → ⊥
spared_made g c op s f = s.place (full_place g op.mutator op.action c f)
