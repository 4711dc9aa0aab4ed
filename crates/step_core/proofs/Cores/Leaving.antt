-- Roots that become nil: k is the core by its fields, c the same by its value.
use Rattle.std.proofs.Common.{◌≡◌, ℕ, zero, suc, ◌+◌, ◌-◌, None, refl, sym, ap, ◌∙◌, subst}
use Rattle.heap_model.specs.Graph.{Graph, RootCounts}
use Rattle.graph_runs.specs.State.{with_nil_roots, register_place, root_counts_of}
use Rattle.step_core.specs.Stands.{CoreState, ShowsGraph, KeepsFrom, IsCore}
use Rattle.step_core.specs.Mutators.{with_nil_words}
use Rattle.step_core.specs.Cycle.{LeavesRegions}
use Rattle.step_core.proofs.Mutating.Acting.{root_shows}
use Rattle.step_core.proofs.Mutating.Written.{root_keeps}
use Rattle.step_core.proofs.Cores.Keeping.{root_kept}

nils_shows : (g : Graph) (c : CoreState) (first count : ℕ) → ShowsGraph g c
    → ShowsGraph (with_nil_roots g first count) (with_nil_words c first count)
nils_shows g c first zero s = s
nils_shows g c first (suc count) s =
    root_shows (with_nil_roots g first count) (with_nil_words c first count) (first + count) None None (nils_shows g c first count s) tt

nils_kept : (c : CoreState) (first count : ℕ) → IsCore c → IsCore (with_nil_words c first count)
nils_kept c first zero core = core
nils_kept c first (suc count) core =
    root_kept (with_nil_words c first count) (with_nil_words c first count) (first + count) None refl
    (nils_kept c first count core) tt (record { name = None; shown = tt })

nils_keeps : (s : Graph) (c : CoreState) (first count : ℕ) → IsCore c → KeepsFrom s c → KeepsFrom s (with_nil_words c first count)
nils_keeps s c first zero core k = k
nils_keeps s c first (suc count) core k =
    let before = nils_kept c first count core in
    root_keeps before.footing.graph s (with_nil_words c first count) (first + count) None _ before.rests.shows tt
    refl (nils_keeps s c first count core k)

module _ (k c : CoreState) (e : k ≡ c) (core : IsCore k) (first count : ℕ) where
  pub left_kept : IsCore (with_nil_words k first count)
  left_kept = nils_kept k first count core

  pub left_keeps : (s : Graph) → KeepsFrom s c → KeepsFrom s (with_nil_words k first count)
  left_keeps s = subst (λ (d : CoreState). KeepsFrom s d → KeepsFrom s (with_nil_words k first count)) e (nils_keeps s k first count core)

  pub left_leaves : LeavesRegions c (with_nil_words k first count)
  left_leaves = subst (λ (d : CoreState). LeavesRegions d (with_nil_words k first count)) e (record { config = refl; in_use = λ n h. h })

  -- the places that the code has are those that the sizes ask for
  module _ (to many : ℕ) (there : first ≡ to) (as_many : count ≡ many) where
    pub left_set : with_nil_words k first count ≡ with_nil_words c to many
    left_set = ap (λ (n : ℕ). with_nil_words k n count) there ∙ ap (λ (n : ℕ). with_nil_words k to n) as_many
        ∙ ap (λ (d : CoreState). with_nil_words d to many) e

    left_by : (g : Graph) → ShowsGraph g c → ShowsGraph (with_nil_roots g to many) (with_nil_words k first count)
    left_by g s = subst (λ (d : CoreState). ShowsGraph (with_nil_roots g to many) d) (sym left_set) (nils_shows g c to many s)

-- the graph has the registers in the same places
pub left_shows : (k c : CoreState) (e : k ≡ c) (core : IsCore k) (first count m r : ℕ)
    → first ≡ register_place (root_counts_of c.config) m r
    → count ≡ (root_counts_of c.config).registers - r → (g : Graph) → ShowsGraph g c
    → ShowsGraph (with_nil_roots g (register_place g.places m r) (g.places.registers - r)) (with_nil_words k first count)
left_shows k c e core first count m r there as_many g s =
    subst (λ (p : RootCounts).
    ShowsGraph (with_nil_roots g (register_place p m r) (p.registers - r)) (with_nil_words k first count)) (sym s.places)
    (left_by k c e core first count (register_place (root_counts_of c.config) m r) ((root_counts_of c.config).registers - r) there as_many
    g s)
