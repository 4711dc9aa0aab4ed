-- The end of marking.
use Rattle.std.specs.Prelude.{◌≡◌, ◌≤◌, ◌⊎◌, ℕ, List, Option, Some}
use Rattle.heap_model.specs.Graph.{Graph, IsReachable, next_name}
use Rattle.heap_model.specs.Heap.{Stored}
use Rattle.heap_model.specs.Clearing.{WillShow}
use Rattle.heap_model.specs.Marking.{KeepsSnapshot, MarksExactly}
use Rattle.heap_model.specs.Weak.{Clears}
use Rattle.heap_model.specs.Count.{IsReachableCount}
use Rattle.regions.specs.Table.{Table}
use Rattle.marker.specs.Clears.{LeadIntoTable}
use Rattle.marker.specs.Views.{heap_of, marking_of, with_roles_exchanged}
use Rattle.marker.specs.declared.marker.Marker.{Marker}

-- an object was kept, under the same name, with the same pointers and data
pub record WasKept (t : Table) (roots : List (Option ℕ)) (m : Marker) (a : ℕ) (x : Stored) : Type 0 where
  pub before : Stored
  pub was : (heap_of t roots m).kept a ≡ Some before
  pub name : x.name ≡ before.name
  pub pointers : x.pointers ≡ before.pointers
  pub values : x.values ≡ before.values

-- Marking from the snapshot s has ended with m', whose roles are exchanged: the marked
-- names are those that were reachable, and they are n. What is kept from now on will show the graph g with its weak slots
-- cleared; it was kept before, has all that was reachable in the snapshot, and of what was there then nothing else; and of
-- what is reachable in g all was reachable in the snapshot, or is new
pub record EndsMarking (s g : Graph) (t : Table) (roots : List (Option ℕ)) (m m' : Marker) (n : ℕ) : Type 0 where
  pub exact : MarksExactly s (heap_of t roots m) (marking_of t (with_roles_exchanged m'))
  pub count : IsReachableCount s n
  pub after : Graph
  pub clears : Clears s g after
  pub shows : WillShow after (heap_of t roots m')
  pub unlost : (name : ℕ) → IsReachable g name → IsReachable s name ⊎ (next_name s ≤ name)
  pub all : (name : ℕ) → IsReachable s name → (a : ℕ) × (x : Stored) × ((heap_of t roots m').kept a ≡ Some x) × (x.name ≡ name)
  pub kept : (a : ℕ) (x : Stored) → (heap_of t roots m').kept a ≡ Some x → WasKept t roots m a x
  pub only : (a : ℕ) (x : Stored) → (heap_of t roots m').kept a ≡ Some x → IsReachable s x.name ⊎ (next_name s ≤ x.name)

-- so it ends whatever the snapshot, the graph and the roots, and where the snapshot is still the graph, what is kept is
-- reachable. Each weak slot leads to an object of the table, kept or not, if it did before
pub record EndsExactly (t : Table) (m m' : Marker) (n : ℕ) : Type 0 where
  pub ends : (s g : Graph) (roots : List (Option ℕ)) → WillShow g (heap_of t roots m) → KeepsSnapshot s (heap_of t roots m) (marking_of t m)
      → EndsMarking s g t roots m m' n
  pub quiet : (g : Graph) (roots : List (Option ℕ)) → WillShow g (heap_of t roots m) → KeepsSnapshot g (heap_of t roots m) (marking_of t m)
      → (a : ℕ) (x : Stored) → (heap_of t roots m').kept a ≡ Some x → IsReachable g x.name
  pub lead : (s g : Graph) (roots : List (Option ℕ)) → WillShow g (heap_of t roots m) → KeepsSnapshot s (heap_of t roots m) (marking_of t m)
      → LeadIntoTable t (heap_of t roots m) → LeadIntoTable t (heap_of t roots m')
