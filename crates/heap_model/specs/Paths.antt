-- Reachable by lists of names.
use Rattle.std.specs.Prelude.{◌≡◌, ℕ, ⊤, List, [], ◌∷◌, Some, slice_get}
use Rattle.heap_model.specs.Graph.{Graph, Object, object_named, HasPair}

-- a pointer of the object named m holds n
abbrev pub HasPointer : Graph → ℕ → ℕ → Type 0
HasPointer g m n = (o : Object) × (i : ℕ) × (object_named g m ≡ Some o) × (slice_get o.pointers i ≡ Some (Some n))

-- the name is in the list
abbrev pub IsIn : List ℕ → ℕ → Type 0
IsIn names n = (i : ℕ) × (slice_get names i ≡ Some n)

-- a root place holds the name, or a pointer of an object that the list names, or such an object holds it for a key that the list names
pub data Follows (g : Graph) (names : List ℕ) : ℕ → Type 0 where
  AsRoot : (j n : ℕ) → slice_get g.roots j ≡ Some (Some n) → Follows g names n
  AsPointer : (m n : ℕ) → IsIn names m → HasPointer g m n → Follows g names n
  AsHeld : (m k n i : ℕ) → HasPair g m i k n → IsIn names m → IsIn names k → Follows g names n

-- each name of the list follows from the later ones
abbrev pub IsOrder : Graph → List ℕ → Type 0
IsOrder g [] = ⊤
IsOrder g (n ∷ names) = Follows g names n × IsOrder g names

-- a finite list of names leads to the name
abbrev pub IsReachableInOrder : Graph → ℕ → Type 0
IsReachableInOrder g n = (names : List ℕ) × IsOrder g (n ∷ names)

-- the names of the list, each in a pointer of the one before, lead from a to n
abbrev pub IsPath : Graph → ℕ → List ℕ → ℕ → Type 0
IsPath g a [] n = a ≡ n
IsPath g a (b ∷ path) n = HasPointer g a b × IsPath g b path n

-- a finite path leads to the name from the name in a root place
abbrev pub IsReachableByPath : Graph → ℕ → Type 0
IsReachableByPath g n = (j : ℕ) × (a : ℕ) × (path : List ℕ) × (slice_get g.roots j ≡ Some (Some a)) × IsPath g a path n
