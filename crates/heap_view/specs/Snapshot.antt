-- The numbers of a snapshot: which node an object is, and where its class is in a table.
use Rattle.std.specs.Prelude.{◌≡◌, ◌≤◌, ◌+◌, ℕ, Bool, false, true, List, [], ◌∷◌, Option, Some, None, All, Contains, IsSome}
use Rattle.std.specs.Prelude.{count_by, is_some, length, map, max, slice_get, sum_by}
use Rattle.std.specs.List.{prefix_len}
use Rattle.std.specs.List.Sorted.{IsStrictlySortedBy}
use Rattle.std.specs.Ordering.{is_lt, nat_cmp}
use Rattle.std.specs.declared.cmp.Ordering.{Ordering}
use Rattle.heap_words.specs.Configs.{max_words}
use Rattle.heap_model.specs.Heap.{Stored}
use Rattle.step_core.specs.Stands.{CoreState, kept_of}
use Rattle.step_core.specs.Mutators.{root_of}
use Rattle.heap_walk.specs.Holders.{links_at}
use Rattle.heap_walk.specs.Starts.{word_count}
use Rattle.heap_walk.specs.Walks.{told_between}
use Rattle.heap_view.specs.Census.{class_cmp, kept_classes}
use Rattle.heap_view.specs.Types.{listed_class}
use Rattle.heap_view.specs.declared.classes.Class.{Class}
use Rattle.heap_view.specs.declared.snapshot.Numbering.{Numbering}

-- how many items of a list in order come before one
abbrev pub place_by : {X : Type 0} → (X → X → Ordering) → List X → X → ℕ
place_by order xs x = prefix_len (λ other. is_lt (order other x)) xs

-- ---- nodes
-- where the kept objects start, by rising address
abbrev pub start_if : ℕ → Option Stored → List ℕ
start_if a None = []
start_if a (Some s) = a ∷ []

abbrev pub starts_at : CoreState → ℕ → List ℕ
starts_at c a = start_if a (kept_of c a)

abbrev pub starts : CoreState → List ℕ
starts c = told_between (starts_at c) 0 (word_count c.table)

-- the node of the object that starts at an address: node 0 is the root of all, node 1 holds the roots of the heap, then come the objects
abbrev pub node_of : CoreState → ℕ → ℕ
node_of c a = 2 + place_by nat_cmp (starts c) a

abbrev pub node_count : CoreState → ℕ
node_count c = 2 + length (starts c)

-- each node from the third on is a kept object, and each kept object is one of them, the one of its number; and where roots lead, and links
-- of kept objects, an object is kept
pub record AreNodes (c : CoreState) : Type 0 where
  pub rising : IsStrictlySortedBy nat_cmp (starts c)
  pub kept : All (λ a. IsSome (kept_of c a)) (starts c)
  pub each : (a : ℕ) → IsSome (kept_of c a) → slice_get (starts c) (place_by nat_cmp (starts c) a) ≡ Some a
  pub roots : (p a : ℕ) → root_of c p ≡ Some a → IsSome (kept_of c a)
  pub links : (weak : Bool) (a i b : ℕ) → IsSome (kept_of c a) → slice_get (links_at weak c a) i ≡ Some (Some b) → IsSome (kept_of c b)

-- ---- edges
-- how many links of an object aren't nil
abbrev pub links_set : Bool → CoreState → ℕ → ℕ
links_set weak c a = count_by is_some (links_at weak c a)

-- how many edges lead from an object, from the heap's roots, and in all: one leads to the node of the heap's roots
abbrev pub edges_from : CoreState → ℕ → ℕ
edges_from c a = links_set false c a + links_set true c a

abbrev pub root_edges : CoreState → ℕ
root_edges c = count_by is_some c.roots

abbrev pub edge_count : CoreState → ℕ
edge_count c = 1 + root_edges c + sum_by (edges_from c) (starts c)

-- ---- strings
-- the classes of these objects, in order and each once; and each of them is at its place
pub record IsClassTable (ks table : List Class) : Type 0 where
  pub sorted : IsStrictlySortedBy class_cmp table
  pub from : All (Contains ks) table
  pub named : All (λ k. slice_get table (place_by class_cmp table k) ≡ Some k) ks

-- the most weak slots that an object of these classes has
abbrev pub widest : List Class → ℕ
widest [] = 0
widest (k ∷ ks) = max k.weaks (widest ks)

-- The strings are: none, the name of the node of roots, the names of the roots, those of the classes of a table, and those of weak slots.
-- The number of the first class's, and of the first weak slot's
abbrev pub first_class : CoreState → ℕ
first_class c = 2 + length c.roots

abbrev pub first_weak : CoreState → List Class → ℕ
first_weak c table = first_class c + length table

-- the classes under which the kept objects are listed, one for each object, with the names of types that a text gives
abbrev pub listed_classes : List ℕ → CoreState → List Class
listed_classes types c = map (listed_class types) (kept_classes c)

-- the nodes of the kept objects are numbered, and classes
pub record IsNumbering (c : CoreState) (n : Numbering) : Type 0 where
  pub nodes : AreNodes c
  pub starts_are : n.starts.items ≡ starts c
  pub few : length (starts c) ≤ max_words
  pub sorted : IsStrictlySortedBy class_cmp n.classes.items
  pub few_classes : length n.classes.items ≤ max_words
