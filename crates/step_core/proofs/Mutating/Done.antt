-- What a step of a mutator does to the core.
use Rattle.std.proofs.Common.{◌≡◌, ℕ, Option, Some, None, refl, sym, ◌∙◌, ap, subst, slice_get, slice_index_or, unwrap_or}
use Rattle.heap_words.specs.Sizes.{size_of}
use Rattle.regions.specs.Table.{Table, pointers_at, new_object}
use Rattle.alloc_buffers.specs.Placement.{Buffers, Placement, allocation_of, made_at, address_of}
use Rattle.alloc_buffers.specs.declared.placement.Allocation.{Allocation}
use Rattle.marker.specs.Steps.{Overwrites}
use Rattle.marker.specs.declared.marker.Marker.{Marker}
use Rattle.graph_runs.specs.State.{register_place, root_counts_of}
use Rattle.heap_steps.specs.declared.step.Action.TheVariants as actions
use Rattle.step_core.specs.Steps.{Counts, Register}
use Rattle.step_core.specs.Stands.{CoreState}
use Rattle.step_core.specs.Mutators.{register_of, object_of, pointer_of, weak_of, with_root_word, with_made, after_new, HasActed}
use Rattle.step_core.specs.Answers.{HasNoPlace}
use Rattle.step_core.proofs.Mutating.Reading.{get_or-get}
use Rattle.step_core.proofs.Mutating.Creating.{with_new}

with_its_marker : (c d : CoreState) → c ≡ d → c ≡ record d { marker = c.marker }
with_its_marker c d e = e ∙ ap (λ (m : Marker). record d { marker = m }) (sym (ap (λ (k : CoreState). k.marker) e))

-- a register takes what a field holds
pub got : (c c' : CoreState) (m : ℕ) (to object : Register) (i a : ℕ) (w : Option ℕ) → register_of c m object ≡ Some a
    → slice_get (pointers_at c.table a) i ≡ Some w → c' ≡ with_root_word c (register_place (root_counts_of c.config) m to.number) w
    → HasActed m (actions.Get to object i) c c'
got c c' m to object i a w there held after =
    let is : w ≡ pointer_of c (object_of c m object) i
    = sym (get_or-get (pointers_at c.table a) i None w held)
    ∙ ap (λ (o : Option ℕ). slice_index_or (pointers_at c.table (unwrap_or o 0)) i None) (sym there) in
    let same : c' ≡ with_root_word c (register_place (root_counts_of c.config) m to.number) (pointer_of c (object_of c m object) i) =
    after ∙ ap (λ (v : Option ℕ). with_root_word c (register_place (root_counts_of c.config) m to.number) v) is in
    record { core = with_its_marker c' _ same; marker = ap (λ (k : CoreState). k.marker) same }

-- and what a weak slot holds, which may be saved
pub got_weak : (c c' : CoreState) (m : ℕ) (to object : Register) (i a : ℕ) (w : Option ℕ) → register_of c m object ≡ Some a
    → w ≡ weak_of c a i
    → c' ≡ record (with_root_word c (register_place (root_counts_of c.config) m to.number) w) { marker = c'.marker }
    → Overwrites c.marker.running c.table m w c.marker c'.marker → HasActed m (actions.GetWeak to object i) c c'
got_weak c c' m to object i a w there held core marker =
    let is : w ≡ weak_of c (object_of c m object) i
    = held ∙ ap (λ (o : Option ℕ). weak_of c (unwrap_or o 0) i) (sym there) in
    record {
      core = core
          ∙ ap (λ (v : Option ℕ). record (with_root_word c (register_place (root_counts_of c.config) m to.number) v) {
            marker = c'.marker;
          }) is;
      marker = subst (λ (v : Option ℕ). Overwrites c.marker.running c.table m v c.marker c'.marker) is marker;
    }

-- an object is made in its place
pub made_in_place : (k c : CoreState) (m : ℕ) (to : Register) (counts : Counts) (weaks size : ℕ) (p : Allocation) (t : Table) (b : Buffers)
    → k ≡ c → allocation_of k.table k.buffers m size ≡ Some (record { place = p; table = t; buffers = b })
    → size ≡ size_of counts.pointers weaks counts.values
    → HasActed m (actions.NewWeak to counts weaks) c
    (with_new k (made_at t p (new_object k.next counts.pointers weaks counts.values)) b
    (register_place (root_counts_of k.config) m to.number) (address_of t p))
made_in_place k c m to counts weaks size p t b e placed many =
    let place : ℕ = register_place (root_counts_of k.config) m to.number in
    let made : CoreState = with_new k (made_at t p (new_object k.next counts.pointers weaks counts.values)) b place (address_of t p) in
    let there : Some (record { place = p; table = t; buffers = b })
    ≡ allocation_of k.table k.buffers m (size_of counts.pointers weaks counts.values) =
    sym placed ∙ ap (λ (n : ℕ). allocation_of k.table k.buffers m n) many in
    let same : made ≡ after_new k m to counts weaks = ap (λ (x : Option Placement). with_made k place counts weaks x) there in
    subst (λ (d : CoreState). HasActed m (actions.NewWeak to counts weaks) d made) e
    (record { core = with_its_marker made _ same; marker = refl })

pub has_place : (k c : CoreState) (m size n : ℕ) (x : Placement) → k ≡ c
    → allocation_of k.table k.buffers m size ≡ Some x → size ≡ n → HasNoPlace c m n → ⊥
has_place k c m size n x e placed many none =
    let gone : Some x ≡ None =
    sym placed ∙ ap (λ (d : CoreState). allocation_of d.table d.buffers m size) e ∙ ap (λ (s : ℕ). allocation_of c.table c.buffers m s)
    many ∙ none in
    cc
