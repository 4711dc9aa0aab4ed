-- The graph of a heap and the snapshot of its marking, and the state of a new heap.
use Rattle.std.specs.Prelude.{◌≡◌, ◌-◌, ◌<◌, ◌≤◌, ◌^◌, if◌then◌else◌}
use Rattle.std.specs.Prelude.{ℕ, List, Option, Some, None, length, slice_get, slice_index_or, replicate, [], nat_lt}
use Rattle.heap_words.specs.declared.config.Config.{Config}
use Rattle.heap_words.specs.Configs.{object_limit}
use Rattle.heap_model.specs.Graph.{Graph, Object, next_name, object_fields}
use Rattle.root_table.specs.Bounds.{AreBounded}
pub use Rattle.heap_model.specs.Graph.{root_places, register_place, with_root, with_nil_roots}
pub use Rattle.root_table.specs.Roots.{root_counts_of}

-- what a root place holds
abbrev pub root_at : Graph → ℕ → Option ℕ
root_at g place = slice_index_or g.roots place None

-- names are words, and there is a root place for each global and each register
pub record IsState (g : Graph) : Type 0 where
  pub names : next_name g < 2 ^ 64
  pub roots : length g.roots ≡ root_places g.places

-- what every graph keeps: its state, and for each row of roots a bound from which on they are nil
pub record IsGraph (g : Graph) (used : List ℕ) : Type 0 where
  pub state : IsState g
  pub bounds : AreBounded g.places g.roots used

-- the place, if the list has it
abbrev pub within : List Object → ℕ → Option ℕ
within objects place = if nat_lt place (length objects) then Some place else None

-- the place in the list of objects of the object that has a name
abbrev pub index_of : Graph → Option ℕ → Option ℕ
index_of g None = None
index_of g (Some name) = within g.objects (name - g.first_name)

-- the graph, and while a snapshot is kept, that: the graph at the last begin that replied ok, with each name of it that was
-- touched since then as one root more
pub record State : Type 0 where
  pub graph : Graph
  pub snapshot : Option Graph

-- the graph of a new heap: no objects, and each root nil
abbrev pub first_graph : Config → Graph
first_graph c = record {
  room = object_limit c;
  first_name = c.first_name;
  places = root_counts_of c;
  objects = [];
  roots = replicate (root_places (root_counts_of c)) None;
}

-- the state of a new heap
abbrev pub first_state : Config → State
first_state c = record { graph = first_graph c; snapshot = None }

-- a name of the graph: one that an object has
abbrev pub IsNameOf : Graph → ℕ → Type 0
IsNameOf g n = (g.first_name ≤ n) × (n < next_name g)

-- the name is in a root place, or in a field of an object
pub data Occurs (g : Graph) (n : ℕ) : Type 0 where
  AtRoot : (j : ℕ) → slice_get g.roots j ≡ Some (Some n) → Occurs g n
  AtField : (k i : ℕ) (x : Object) → slice_get g.objects k ≡ Some x → slice_get (object_fields x) i ≡ Some (Some n) → Occurs g n

-- each name that is anywhere in the graph is an object's
abbrev pub HoldsNames : Graph → Type 0
HoldsNames g = (n : ℕ) → Occurs g n → IsNameOf g n

-- no object has held slots: no step makes them yet
abbrev pub HaveNoPairs : Graph → Type 0
HaveNoPairs g = (k : ℕ) (x : Object) → slice_get g.objects k ≡ Some x → x.held ≡ []

-- the snapshot has the graph's names up to some name
pub record IsEarlier (s g : Graph) : Type 0 where
  pub holds : HoldsNames s
  pub pairs : HaveNoPairs s
  pub first_name : s.first_name ≡ g.first_name
  pub next_name : next_name s ≤ next_name g

-- the fact holds of the snapshot if there is one
abbrev pub ForSnapshot : Option Graph → (Graph → Type 0) → Type 0
ForSnapshot None P = Unit {0}
ForSnapshot (Some s) P = P s

-- no name is anywhere but those that objects have, and there are no pairs
pub record IsSoundState (st : State) : Type 0 where
  pub graph : HoldsNames st.graph
  pub pairs : HaveNoPairs st.graph
  pub snapshot : ForSnapshot st.snapshot (λ s. IsEarlier s st.graph)
