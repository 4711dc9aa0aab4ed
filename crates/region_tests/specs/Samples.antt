-- What the tests keep of the tables that they build.
use Rattle.std.specs.Prelude.{◌≡◌, ℕ, ◌+◌, ◌-◌, ◌/◌, ◌<◌, length, Some, slice_get, ◌∷◌, []}
use Rattle.heap_model.specs.Heap.{Stored, fields}
use Rattle.regions.specs.Tiles.{Object}
use Rattle.regions.specs.Table.{Table, Free, Ordinary, new_object, object_at, remainder}

-- four regions of sixteen words, of which the first has m words handed out, and an object of nil fields at its bottom
abbrev pub one_object : ℕ → ℕ → ℕ → ℕ → Table
one_object m p weak d = record {
  words_per_region = 16;
  regions = Ordinary (Object (new_object 7 p weak d) ∷ remainder (m - (2 + p + weak + d))) ∷ Free ∷ Free ∷ Free ∷ [];
}

-- each field of an object is nil or leads into a region of the table
abbrev pub IsInside : Table → Type 0
IsInside t =
    (a i b : ℕ) (x : Stored) → object_at t a ≡ Some x → slice_get (fields x) i ≡ Some (Some b) → b / t.words_per_region < length t.regions

-- four regions of sixteen words, all fields inside
pub record IsSample (t : Table) : Type 0 where
  pub count : length t.regions ≡ 4
  pub words : t.words_per_region ≡ 16
  pub inside : IsInside t
