-- The object graph: objects by unchanging names, and root places that lead to them. No object is ever
-- removed, so objects are in a list, by name: the first one has the first name, each later one the next.
use Rattle.std.specs.Prelude.{◌≡◌, ◌+◌, ◌-◌, ◌*◌, ◌<◌, ◌∷◌, ◌++◌, if◌then◌else◌}
use Rattle.std.specs.Prelude.{ℕ, zero, suc, List, [], length, Option, Some, None, slice_set, slice_get, nat_le}

-- pointers, weak slots and held slots are nil or names. Held slot i belongs to weak slot i, its key. No step makes held slots yet
pub record Object : Type 0 where
  pub pointers : List (Option ℕ)
  pub weaks : List (Option ℕ)
  pub held : List (Option ℕ)
  pub values : List ℕ

-- every field of the object that holds a name, in the order in which the heap stores them
abbrev pub object_fields : Object → List (Option ℕ)
object_fields o = o.pointers ++ (o.weaks ++ o.held)

-- weak slot i holds k, the key, and held slot i holds b
abbrev pub IsPair : List (Option ℕ) → List (Option ℕ) → ℕ → ℕ → ℕ → Type 0
IsPair weaks held i k b = (slice_get weaks i ≡ Some (Some k)) × (slice_get held i ≡ Some (Some b))

-- what is held still: held slots whose weak slot is nil hold nothing
abbrev pub held_by : List (Option ℕ) → List (Option ℕ) → List (Option ℕ)
held_by ws [] = []
held_by [] (v ∷ vs) = None ∷ held_by [] vs
held_by (None ∷ ws) (v ∷ vs) = None ∷ held_by ws vs
held_by (Some k ∷ ws) (v ∷ vs) = v ∷ held_by ws vs

-- how many globals a heap has, how many mutators, and how many registers each of them
pub record RootCounts : Type 0 where
  pub globals : ℕ
  pub mutators : ℕ
  pub registers : ℕ

-- Where roots are: the globals first, and after them the registers of one mutator after another.
-- The place of a mutator's register
abbrev pub register_place : RootCounts → ℕ → ℕ → ℕ
register_place p mutator register = p.globals + p.registers * mutator + register

-- how many root places there are
abbrev pub root_places : RootCounts → ℕ
root_places p = p.globals + p.registers * p.mutators

-- the same roots, of which so many from one on hold nil
abbrev pub with_nils : List (Option ℕ) → ℕ → ℕ → List (Option ℕ)
with_nils words first zero = words
with_nils words first (suc count) = slice_set (with_nils words first count) (first + count) None

pub record Graph : Type 0 where
  -- how many words the heap has
  pub room : ℕ
  pub first_name : ℕ
  -- how many globals, mutators and registers there are
  pub places : RootCounts
  pub objects : List Object
  -- nil or a name in each root place: the globals, then each mutator's registers
  pub roots : List (Option ℕ)

-- the name of the next object
abbrev pub next_name : Graph → ℕ
next_name g = g.first_name + length g.objects

-- the object of this name
unfoldable pub object_named : Graph → ℕ → Option Object
object_named g n = if nat_le g.first_name n then slice_get g.objects (n - g.first_name) else None

-- the object named m has the pair
pub record HasPair (g : Graph) (m i k n : ℕ) : Type 0 where
  pub object : Object
  pub named : object_named g m ≡ Some object
  pub pair : IsPair object.weaks object.held i k n

-- a root place holds the name, or a pointer of an object whose name is reachable, or a held slot of such an object whose key is
-- reachable too
pub data IsReachable (g : Graph) : ℕ → Type 0 where
  FromRoot : (j n : ℕ) → slice_get g.roots j ≡ Some (Some n) → IsReachable g n
  FromObject : (m n i : ℕ) (o : Object) → IsReachable g m → object_named g m ≡ Some o → slice_get o.pointers i ≡ Some (Some n)
      → IsReachable g n
  FromHeld : (m k n i : ℕ) → HasPair g m i k n → IsReachable g m → IsReachable g k → IsReachable g n

-- the graph with another value in a root place
abbrev pub with_root : Graph → ℕ → Option ℕ → Graph
with_root g j v = record g { roots = slice_set g.roots j v }

-- the graph with nil in so many root places from one on
abbrev pub with_nil_roots : Graph → ℕ → ℕ → Graph
with_nil_roots g first count = record g { roots = with_nils g.roots first count }

-- the graph with one more object, which has the next name, and that name in a root place
abbrev pub with_object : Graph → Object → ℕ → Graph
with_object g o j = record g { objects = g.objects ++ o ∷ []; roots = slice_set g.roots j (Some (next_name g)) }

-- the graph with another object under a name
abbrev pub with_changed : Graph → ℕ → Object → Graph
with_changed g n o = record g { objects = slice_set g.objects (n - g.first_name) o }

-- the next name is above every name in the graph
pub record IsSound (g : Graph) : Type 0 where
  pub roots : (j n : ℕ) → slice_get g.roots j ≡ Some (Some n) → n < next_name g
  pub fields : (m i n : ℕ) (o : Object) → object_named g m ≡ Some o → slice_get (object_fields o) i ≡ Some (Some n) → n < next_name g
