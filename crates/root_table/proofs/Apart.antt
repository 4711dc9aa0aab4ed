-- Globals and registers, each in a list of its own.
use Rattle.std.proofs.Common.{◌≡◌, ◌<◌, ◌≤◌, ◌+◌, ◌-◌, ◌^◌, ◌++◌, ◌∙◌, ℕ, zero, suc, List, Option, None, length, get_or, set, replicate}
use Rattle.std.proofs.Common.{refl, sym, ap, subst, arith, length-set, IsSome}
use Rattle.std.proofs.lemmas.Grind.{get_or_default_zero}
use Rattle.std.proofs.lemmas.List.{get_or-replicate, length-replicate, replicate-append-replicate, set-append_left, set-append_right}
use Rattle.heap_model.specs.Graph.{RootCounts, register_place, root_places, with_nils}
use Rattle.root_table.specs.Roots.{RootTable}
use Rattle.root_table.specs.Bounds.{AreBounded, IsRootTable}
use Rattle.root_table.proofs.Nils.{left_from, left_in, left_nothing, left_whole, with_words}
use Rattle.root_table.proofs.Rows.{stored_in, kept_in, new_bounded, register_stored, register_kept, some_address, updated}

-- ---- a store after the globals is one among the registers
pub set_right : (xs ys : List (Option ℕ)) (i : ℕ) (v : Option ℕ) → set (xs ++ ys) (length xs + i) v ≡ xs ++ set ys i v
set_right xs ys i v = set-append_right xs ys (length xs) (length xs + i) v refl (omega arith)
    ∙ ap (λ (k : ℕ). xs ++ set ys k v) {x = length xs + i - length xs} {y = i} (omega arith)

-- and so are places there that become nil
nils_after : (xs ys : List (Option ℕ)) (first count : ℕ) → with_nils (xs ++ ys) (length xs + first) count ≡ xs ++ with_nils ys first count
nils_after xs ys first zero = refl
nils_after xs ys first (suc count) =
    ap (λ (ws : List (Option ℕ)). set ws (length xs + first + count) None) (nils_after xs ys first count)
    ∙ ap (λ (k : ℕ). set (xs ++ with_nils ys first count) k None)
    {x = length xs + first + count} {y = length xs + (first + count)} (omega arith)
    ∙ set_right xs (with_nils ys first count) (first + count) None

-- ---- the same in a table, where a register's place is known
pub registers_set : (p : RootCounts) (g r : List (Option ℕ)) (used : List ℕ) (at place : ℕ) (v : Option ℕ) → IsRootTable p g r used
    → p.globals + at ≡ place → g ++ set r at v ≡ set (g ++ r) place v
registers_set p g r used at place v t e =
    sym (set_right g r at v) ∙ ap (λ (k : ℕ). set (g ++ r) k v) {x = length g + at} {y = place} (omega (arith, e, t.apart))

pub registers_left : (p : RootCounts) (g r : List (Option ℕ)) (used : List ℕ) (at place count : ℕ) → IsRootTable p g r used
    → p.globals + at ≡ place → g ++ with_nils r at count ≡ with_nils (g ++ r) place count
registers_left p g r used at place count t e = sym (nils_after g r at count)
    ∙ ap (λ (k : ℕ). with_nils (g ++ r) k count) {x = length g + at} {y = place} (omega (arith, e, t.apart))

pub globals_set : (p : RootCounts) (g r : List (Option ℕ)) (used : List ℕ) (at : ℕ) (v : Option ℕ) → IsRootTable p g r used
    → at < p.globals → set g at v ++ r ≡ set (g ++ r) at v
globals_set p g r used at v t inside = sym (set-append_left g r at v (omega (arith, inside, t.apart)))

-- a place after the globals, as the code finds it
pub later_set : (g r : List (Option ℕ)) (place : ℕ) (v : Option ℕ) → length g ≤ place
    → g ++ set r (place - length g) v ≡ set (g ++ r) place v
later_set g r place v past = sym (set-append_right g r (length g) place v refl past)

-- ---- a bound as the code reads it
pub read_used : (used : List ℕ) (row : ℕ) → row < length used → get_or used row 0 ≡ get_or used row (get_or used row 0)
read_used used row inside = sym (get_or_default_zero used row (get_or used row 0) inside)

register_used : (p : RootCounts) (g r : List (Option ℕ)) (used : List ℕ) (m : ℕ) → IsRootTable p g r used → m < p.mutators
    → get_or used (m + 1) 0 ≡ get_or used (m + 1) (get_or used (m + 1) 0)
register_used p g r used m t known = read_used used (m + 1) (omega (arith, known, t.bounded.rows))

-- ---- tables whose words and bounds are others
table_with : (p : RootCounts) (g r g' r' ws : List (Option ℕ)) (used used' : List ℕ) → IsRootTable p g r used → length g' ≡ length g
    → g' ++ r' ≡ ws → AreBounded p ws used' → IsRootTable p g' r' used'
table_with p g r g' r' ws used used' t len e b = record {
  bounded = subst (λ (words : List (Option ℕ)). AreBounded p words used') (sym e) b;
  apart = len ∙ t.apart;
  few_places = t.few_places;
  few_mutators = t.few_mutators;
}

-- a register takes a value, above its row's bound or below it
pub register_raised : (p : RootCounts) (g r : List (Option ℕ)) (used : List ℕ) (m k at : ℕ) (v : Option ℕ) → IsRootTable p g r used
    → m < p.mutators → k < p.registers → p.globals + at ≡ register_place p m k → get_or used (m + 1) 0 ≤ k
    → IsRootTable p g (set r at v) (set used (m + 1) (k + 1))
register_raised p g r used m k at v t known inside e below =
    table_with p g r g (set r at v) (set (g ++ r) (register_place p m k) v) used (set used (m + 1) (k + 1)) t refl
    (registers_set p g r used at (register_place p m k) v t e)
    (register_stored p (g ++ r) used m k (register_place p m k) (get_or used (m + 1) 0) v t.bounded known inside refl
    (register_used p g r used m t known) below)

pub register_within_bound : (p : RootCounts) (g r : List (Option ℕ)) (used : List ℕ) (m k at : ℕ) (v : Option ℕ) → IsRootTable p g r used
    → m < p.mutators → k < p.registers → p.globals + at ≡ register_place p m k → k < get_or used (m + 1) 0
    → IsRootTable p g (set r at v) used
register_within_bound p g r used m k at v t known inside e above =
    table_with p g r g (set r at v) (set (g ++ r) (register_place p m k) v) used used t refl
    (registers_set p g r used at (register_place p m k) v t e)
    (register_kept p (g ++ r) used m k (register_place p m k) (get_or used (m + 1) 0) v t.bounded known inside refl
    (register_used p g r used m t known) above)

-- the same of a global
pub global_raised : (p : RootCounts) (g r : List (Option ℕ)) (used : List ℕ) (k : ℕ) (v : Option ℕ) → IsRootTable p g r used → k < p.globals
    → get_or used 0 0 ≤ k → IsRootTable p (set g k v) r (set used 0 (k + 1))
global_raised p g r used k v t inside below =
    table_with p g r (set g k v) r (set (g ++ r) k v) used (set used 0 (k + 1)) t (length-set g k v) (globals_set p g r used k v t inside)
    (stored_in p (g ++ r) used 0 k k (get_or used 0 0) v t.bounded (omega arith) inside (omega arith)
    (read_used used 0 (omega (arith, t.bounded.rows))) below)

pub global_within_bound : (p : RootCounts) (g r : List (Option ℕ)) (used : List ℕ) (k : ℕ) (v : Option ℕ) → IsRootTable p g r used
    → k < p.globals
    → k < get_or used 0 0 → IsRootTable p (set g k v) r used
global_within_bound p g r used k v t inside above =
    table_with p g r (set g k v) r (set (g ++ r) k v) used used t (length-set g k v) (globals_set p g r used k v t inside)
    (kept_in p (g ++ r) used 0 k k (get_or used 0 0) v t.bounded (omega arith) inside (omega arith)
    (read_used used 0 (omega (arith, t.bounded.rows))) above)

-- a place that isn't nil takes a value
pub global_updated : (p : RootCounts) (g r : List (Option ℕ)) (used : List ℕ) (place : ℕ) (v : Option ℕ) → IsRootTable p g r used
    → place < length g
    → IsSome (get_or (g ++ r) place None) → IsRootTable p (set g place v) r used
global_updated p g r used place v t inside some =
    let named = some_address (get_or (g ++ r) place None) some in
    table_with p g r (set g place v) r (set (g ++ r) place v) used used t (length-set g place v)
    (sym (set-append_left g r place v inside)) (updated p (g ++ r) used place named.0 v t.bounded named.1)

pub register_updated : (p : RootCounts) (g r : List (Option ℕ)) (used : List ℕ) (place : ℕ) (v : Option ℕ) → IsRootTable p g r used
    → length g ≤ place → IsSome (get_or (g ++ r) place None) → IsRootTable p g (set r (place - length g) v) used
register_updated p g r used place v t past some =
    let named = some_address (get_or (g ++ r) place None) some in
    table_with p g r g (set r (place - length g) v) (set (g ++ r) place v) used used t refl
    (later_set g r place v past) (updated p (g ++ r) used place named.0 v t.bounded named.1)

-- a frame is left
pub table_left : (p : RootCounts) (g r : List (Option ℕ)) (used : List ℕ) (m k at : ℕ) → IsRootTable p g r used → m < p.mutators
    → p.globals + at ≡ register_place p m k → k < get_or used (m + 1) 0
    → IsRootTable p g (with_nils r at (get_or used (m + 1) 0 - k)) (set used (m + 1) k)
table_left p g r used m k at t known e less =
    let n = get_or used (m + 1) 0 in
    table_with p g r g (with_nils r at (n - k)) (with_nils (g ++ r) (register_place p m k) (n - k)) used (set used (m + 1) k) t refl
    (registers_left p g r used at (register_place p m k) (n - k) t e)
    (left_in p (g ++ r) (with_nils (g ++ r) (register_place p m k) (n - k)) used m k n (register_place p m k) t.bounded known less refl refl
    (register_used p g r used m t known))

-- ---- what is known of a table, said of its parts
pub place_in : (v t : RootTable) (at m k : ℕ) → v ≡ t → t.places.globals + at ≡ register_place t.places m k
    → v.places.globals + at ≡ register_place v.places m k
place_in v t at m k e at_t = subst (λ (u : RootTable). u.places.globals + at ≡ register_place u.places m k) (sym e) at_t

pub mutator_in : (v t : RootTable) (m : ℕ) → v ≡ t → m < t.places.mutators → m < v.places.mutators
mutator_in v t m e known = subst (λ (u : RootTable). m < u.places.mutators) (sym e) known

pub register_in : (v t : RootTable) (k : ℕ) → v ≡ t → k < t.places.registers → k < v.places.registers
register_in v t k e inside = subst (λ (u : RootTable). k < u.places.registers) (sym e) inside

pub global_in : (v t : RootTable) (k : ℕ) → v ≡ t → k < t.places.globals → k < v.places.globals
global_in v t k e inside = subst (λ (u : RootTable). k < u.places.globals) (sym e) inside

pub some_in : (v t : RootTable) (place : ℕ) → v ≡ t → IsSome (get_or t.words place None) → IsSome (get_or v.words place None)
some_in v t place e some = subst (λ (u : RootTable). IsSome (get_or u.words place None)) (sym e) some

-- the table in which a place holds another value
pub set_in : (v t : RootTable) (ws : List (Option ℕ)) (place : ℕ) (x : Option ℕ) → v ≡ t → ws ≡ set v.words place x
    → with_words v ws ≡ with_words t (set t.words place x)
set_in v t ws place x e same = ap (with_words v) same ∙ ap (λ (u : RootTable). with_words u (set u.words place x)) e

-- the same of a register
pub register_set_in : (v t : RootTable) (ws : List (Option ℕ)) (m k : ℕ) (x : Option ℕ) → v ≡ t
    → ws ≡ set v.words (register_place v.places m k) x → with_words v ws ≡ with_words t (set t.words (register_place t.places m k) x)
register_set_in v t ws m k x e same =
    ap (with_words v) same ∙ ap (λ (u : RootTable). with_words u (set u.words (register_place u.places m k) x)) e

-- ---- a frame that is left, as the code does it
-- nothing is left to be done where the bound is no higher
pub frame_is_nil : (v t : RootTable) (g r : List (Option ℕ)) (used : List ℕ) (m k : ℕ) → v ≡ t → v.words ≡ g ++ r
    → IsRootTable v.places g r used → m < t.places.mutators → k < t.places.registers → get_or used (m + 1) 0 ≤ k → t ≡ left_from t m k
frame_is_nil v t g r used m k e words table known inside below =
    subst (λ (u : RootTable). u ≡ left_from u m k) e
    (left_nothing v used m k (get_or used (m + 1) 0)
    (subst (λ (ws : List (Option ℕ)). AreBounded v.places ws used) (sym words) table.bounded) (mutator_in v t m e known)
    (register_in v t k e inside) below
    (register_used v.places g r used m table (mutator_in v t m e known)))

-- the table in which it is
pub frame_left : (v t : RootTable) (g r ws : List (Option ℕ)) (used : List ℕ) (m k at : ℕ) → v ≡ t → v.words ≡ g ++ r
    → IsRootTable v.places g r used → m < t.places.mutators → t.places.globals + at ≡ register_place t.places m k
    → k < get_or used (m + 1) 0
    → ws ≡ g ++ with_nils r at (get_or used (m + 1) 0 - k) → with_words v ws ≡ left_from t m k
frame_left v t g r ws used m k at e words table known place less same =
    let n = get_or used (m + 1) 0 in
    let place_v = place_in v t at m k e place in
    let known_v = mutator_in v t m e known in
    left_whole v ws used m k n (register_place v.places m k)
    (subst (λ (xs : List (Option ℕ)). AreBounded v.places xs used) (sym words) table.bounded) known_v less refl
    (same ∙ registers_left v.places g r used at (register_place v.places m k) (n - k) table place_v
    ∙ ap (λ (xs : List (Option ℕ)). with_nils xs (register_place v.places m k) (n - k)) (sym words))
    (register_used v.places g r used m table known_v)
    ∙ ap (λ (u : RootTable). left_from u m k) e

-- ---- a new table, in which all roots are nil
pub all_nil : (p : RootCounts) (g r : List (Option ℕ)) (others : ℕ) → g ≡ replicate p.globals None → r ≡ replicate others None
    → p.globals + others ≡ root_places p → g ++ r ≡ replicate (root_places p) None
all_nil p g r others left right all =
    ap (λ (xs : List (Option ℕ)). xs ++ r) left ∙ ap (λ (ys : List (Option ℕ)). replicate p.globals None ++ ys) right
    ∙ replicate-append-replicate p.globals others None ∙ ap (λ (n : ℕ). replicate n None) all

pub new_table : (p : RootCounts) (g r : List (Option ℕ)) (used : List ℕ) (others : ℕ) → g ≡ replicate p.globals None
    → r ≡ replicate others None → p.globals + others ≡ root_places p → root_places p < 2 ^ 32 → p.mutators ≤ 64 → used ≡ replicate 65 0
    → IsRootTable p g r used
new_table p g r used others left right all few most none = record {
  bounded = subst (λ (ws : List (Option ℕ)). AreBounded p ws used) (sym (all_nil p g r others left right all))
      (new_bounded p used (let len = ap length none in omega (arith, len, length-replicate {A = ℕ} 65 0, most))
      (λ row low. ap (λ (xs : List ℕ). get_or xs row 0) none ∙ get_or-replicate {A = ℕ} 65 row 0 0 (omega (arith, low, most))));
  apart = ap length left ∙ length-replicate {A = Option ℕ} p.globals None;
  few_places = few;
  few_mutators = most;
}

-- ---- what is known of the bounds, said of the table
pub bounded_in : (p : RootCounts) (g r : List (Option ℕ)) (used : List ℕ) (t : RootTable) → record { places = p; words = g ++ r } ≡ t
    → IsRootTable p g r used → AreBounded t.places t.words used
bounded_in p g r used t e table = subst (λ (u : RootTable). AreBounded u.places u.words used) e table.bounded
