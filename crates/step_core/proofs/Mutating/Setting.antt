-- A root is set: k is the core by its fields, c the same by its value.
use Rattle.std.proofs.Common.{◌≡◌, ℕ, ◌<◌, ◌∙◌, Option, None, get_or, refl, sym, ap, subst, slice_set}
use Rattle.heap_words.specs.Configs.{registers_of}
use Rattle.heap_model.specs.Graph.{Graph}
use Rattle.heap_model.specs.Heap.{IsHeld, IsShown}
use Rattle.root_table.specs.Roots.{RootTable}
use Rattle.graph_runs.specs.State.{root_counts_of, register_place, with_root}
use Rattle.heap_steps.specs.declared.step.Register.{Register}
use Rattle.step_core.specs.Stands.{CoreState, IsCore, IsWordOf, ShowsGraph, heap_of}
use Rattle.step_core.specs.Mutators.{with_root_word}
use Rattle.step_core.specs.Parts.{HoldsRegister, SetsRoot}
use Rattle.step_core.proofs.Cores.Keeping.{register_at, register_facts, register_shows, root_after, root_held, root_kept, root_kept_from}
use Rattle.step_core.proofs.Cores.Keeping.{root_leaves, root_set}

-- a root place takes a word
module _ (k c : CoreState) (e : k ≡ c) (core : IsCore k) (place : ℕ) (w : Option ℕ) (rs : RootTable)
    (is : rs ≡ record { places = k.places; words = slice_set k.roots place w }) (held : IsHeld (heap_of c) w) where
  abbrev after : RootTable → CoreState
  after r = record k { places = r.places; roots = r.words }

  pub root_core : IsWordOf (heap_of c) w → IsCore (after rs)
  root_core word = subst (λ (r : RootTable). IsCore (after r)) (sym is) (root_kept k c place w e core held word)

  pub root_sets : SetsRoot place w c (after rs)
  root_sets = subst (λ (r : RootTable). SetsRoot place w c (after r)) (sym is) (record {
    keeps = root_kept_from k c place w e core held;
    after = root_set k c e place w;
    leaves = root_leaves k c place w e core held;
  })

  pub root_set_shows : (g : Graph) (v : Option ℕ) → ShowsGraph g c → IsShown (heap_of c) w v → ShowsGraph (with_root g place v) (after rs)
  root_set_shows g v s shown =
      subst (λ (r : RootTable). ShowsGraph (with_root g place v) (after r)) (sym is) (root_after k c place w e g v s shown)

pub sets_as : (place : ℕ) (w v : Option ℕ) (c c' : CoreState) → w ≡ v → SetsRoot place w c c' → SetsRoot place v c c'
sets_as place w v c c' e s = record { keeps = s.keeps; after = s.after ∙ ap (with_root_word c place) e; leaves = s.leaves }

-- a register does
module _ (k c : CoreState) (e : k ≡ c) (core : IsCore k) (m : ℕ) (r : Register) (w : Option ℕ) (rs : RootTable)
    (is : rs ≡ record { places = k.places; words = slice_set k.roots (register_place k.places m r.number) w })
    (held : IsHeld (heap_of c) w) where
  at : rs ≡ record { places = k.places; words = slice_set k.roots (register_place (root_counts_of c.config) m r.number) w }
  at = is ∙ ap (λ (p : ℕ). record { places = k.places; words = slice_set k.roots p w }) (register_at k c e core m r.number)

  pub register_core : IsWordOf (heap_of c) w → IsCore (record k { places = rs.places; roots = rs.words })
  register_core = root_core k c e core (register_place (root_counts_of c.config) m r.number) w rs at held

  pub register_sets : SetsRoot (register_place (root_counts_of c.config) m r.number) w c (record k { places = rs.places; roots = rs.words })
  register_sets = root_sets k c e core (register_place (root_counts_of c.config) m r.number) w rs at held

  pub register_set_shows : (g : Graph) (v : Option ℕ) → ShowsGraph g c → IsShown (heap_of c) w v
      → ShowsGraph (with_root g (register_place g.places m r.number) v) (record k { places = rs.places; roots = rs.words })
  register_set_shows = register_shows c (record k { places = rs.places; roots = rs.words }) m r.number w
      (root_set_shows k c e core (register_place (root_counts_of c.config) m r.number) w rs at held)

-- the word of a register, as the table of roots reads it
pub register_word : (k c : CoreState) (m : ℕ) (r : Register) → k ≡ c → IsCore k → m < c.config.mutators → r.number < registers_of c.config
    → HoldsRegister c m r (get_or k.roots (register_place k.places m r.number) None)
register_word k c m r e core known inside =
    register_facts k c m r (get_or k.roots (register_place k.places m r.number) None) e core known inside refl

-- it may be stored
pub register_held : (c : CoreState) (m : ℕ) (r : Register) (w : Option ℕ) → HoldsRegister c m r w → IsHeld (heap_of c) w
register_held c m r w h = root_held (heap_of c) w h.rooted
