-- One object that moves: what names its old place is redirected to the new one. No header tells of the move, since both places are known.
use Rattle.std.specs.Prelude.{◌≡◌, ◌≢◌, ◌==◌, ℕ, List, Option, Some, None, map, length, if◌then◌else◌}
use Rattle.heap_model.specs.Heap.{Heap, Stored, fields}

-- where each object is once the one at `from` is at `to`
abbrev pub place_moved : ℕ → ℕ → ℕ → Option ℕ
place_moved from to a = if a == from then Some to else Some a

-- what a word is once each that named the old place names the new one
abbrev pub redirected : ℕ → ℕ → Option ℕ → Option ℕ
redirected from to None = None
redirected from to (Some a) = if a == from then Some to else Some a

-- the same object with its fields redirected
pub record IsRedirected (from to : ℕ) (x y : Stored) : Type 0 where
  pub name : y.name ≡ x.name
  pub values : y.values ≡ x.values
  pub shape : length y.pointers ≡ length x.pointers
  pub slots : length y.weaks ≡ length x.weaks
  pub fields_are : fields y ≡ map (redirected from to) (fields x)

-- each root and each field of a kept object that named the old place names the new one, and nothing else changed
pub record Redirects (from to : ℕ) (h h' : Heap) : Type 0 where
  pub roots : h'.roots ≡ map (redirected from to) h.roots
  pub objects : (a : ℕ) (x : Stored) → h.kept a ≡ Some x → (y : Stored) × (h'.kept a ≡ Some y) × IsRedirected from to x y
  pub none : (a : ℕ) → h.kept a ≡ None → h'.kept a ≡ None

-- the object at `from` is at `to`, as it is, and nothing else changed
pub record ObjectMoved (h h' : Heap) (from to : ℕ) (object : Stored) : Type 0 where
  pub was : h.kept from ≡ Some object
  pub room : h.kept to ≡ None
  pub is : h'.kept to ≡ Some object
  pub gone : h'.kept from ≡ None
  pub others : (a : ℕ) → a ≢ from → a ≢ to → h'.kept a ≡ h.kept a
  pub roots : h'.roots ≡ h.roots
