-- No kept object of a core has held slots, since the graph that it shows has no pairs.
use Rattle.std.proofs.Common.{◌≡◌, ◌-◌, ℕ, Option, Some, List, [], ◌∷◌, length, map, refl, sym, ap, subst, arith, ◌∙◌}
use Rattle.std.specs.List.{AllZip}
use Rattle.heap_model.specs.Graph.{Graph, Object, object_named, held_by}
use Rattle.heap_model.specs.Heap.{Stored, IsShown, IsRoot}
use Rattle.heap_model.specs.Clearing.{kept_held, kept_word}
use Rattle.heap_model.specs.Weak.{Clears, ClearsObject}
use Rattle.heap_model.proofs.Lists.{AllZip-get_right}
use Rattle.heap_model.proofs.Shown.{followed}
use Rattle.regions.specs.Shaped.{IsBareAt}
use Rattle.regions.proofs.Words.Fields.{held_by_long}
use Rattle.graph_runs.specs.State.{HaveNoPairs}
use Rattle.graph_runs.proofs.SinceLaws.{place_named}
use Rattle.step_core.specs.Stands.{CoreState, kept_of, heap_of, IsCore, Leads}
use Rattle.step_core.proofs.Mutating.Reading.{object_kept}

pub object_bare : (g : Graph) (n : ℕ) (o : Object) → HaveNoPairs g → object_named g n ≡ Some o → o.held ≡ []
object_bare g n o none named = none (n - g.first_name) o (place_named g n o named)

-- no pairs come where weak slots are cleared
pub pairs_cleared : (s g g' : Graph) → Clears s g g' → HaveNoPairs g → HaveNoPairs g'
pairs_cleared s g g' c none p y at =
    let (x, is, z) = AllZip-get_right (ClearsObject s) g.objects g'.objects c.objects p y at in
    z.held ∙ ap (λ (vs : List (Option ℕ)). held_by y.weaks vs) (none p x is)

none_of : (hs : List (Option ℕ)) → length hs ≡ 0 → hs ≡ []
none_of [] e = refl
none_of (h ∷ hs) e = absurd (omega (arith, e))

no_words : (c : CoreState) (ws : List (Option ℕ)) → AllZip (IsShown (heap_of c)) ws [] → length ws ≡ 0
no_words c [] z = refl
no_words c (w ∷ ws) z = absurd z

pub kept_bare : (c : CoreState) → IsCore c → (a : ℕ) (x : Stored) → kept_of c a ≡ Some x → x.held ≡ []
kept_bare c core a x at =
    let o = core.rests.shows.shows.objects a x at in
    let none = object_bare core.footing.graph x.name o.object core.rests.pairs o.named in
    let z = subst (λ (vs : List (Option ℕ)). AllZip (IsShown (heap_of c)) (kept_held (kept_of c) x) vs) none o.held in
    none_of x.held (sym (held_by_long (map (kept_word (kept_of c)) x.weaks) x.held) ∙ no_words c (kept_held (kept_of c) x) z)

bare_at : (c : CoreState) → IsCore c → (a : ℕ) (x : Stored) → kept_of c a ≡ Some x → IsBareAt c.table a
bare_at c core a x at s e =
    let is = object_kept c a x at in
    let same : s ≡ x = cc in
    ap (λ (y : Stored). y.held) same ∙ kept_bare c core a x at

-- the object that a register names has none
pub led_bare : (c : CoreState) (place a : ℕ) → IsCore c → Leads c place (Some a) → IsBareAt c.table a
led_bare c place a core l =
    let o = l core.footing.graph core.rests.shows in bare_at c core a o.stored o.at

-- nor has one that a root names
pub root_bare : (c : CoreState) (a : ℕ) → IsCore c → IsRoot (heap_of c) a → IsBareAt c.table a
root_bare c a core root =
    let (x, at) = (followed core.footing.graph (heap_of c) core.rests.shows.shows).root root.place a root.is in bare_at c core a x at

-- the same by the core's fields
pub fields_bare : (k c : CoreState) (place a : ℕ) → k ≡ c → IsCore k → Leads c place (Some a) → IsBareAt k.table a
fields_bare k c place a e core l =
    subst (λ (d : CoreState). IsBareAt d.table a) (sym e) (led_bare c place a (subst (λ (d : CoreState). IsCore d) e core) l)

pub rooted_bare : (k c : CoreState) (a : ℕ) → k ≡ c → IsCore k → IsRoot (heap_of c) a → IsBareAt k.table a
rooted_bare k c a e core root =
    subst (λ (d : CoreState). IsBareAt d.table a) (sym e) (root_bare c a (subst (λ (d : CoreState). IsCore d) e core) root)
