-- What the tests keep of the tables that they build.
use Rattle.std.specs.Prelude.{◌≡◌, ◌≤◌, ℕ, List, length, Option, Some, slice_get}
use Rattle.heap_model.specs.Heap.{Stored, fields}
use Rattle.regions.specs.Table.{Table, object_at, object_words, pointers_at, top_of, HasObject}

-- each field of an object is nil or leads to an object
abbrev pub IsLinked : Table → Type 0
IsLinked t = (a i b : ℕ) (x : Stored) → object_at t a ≡ Some x → slice_get (fields x) i ≡ Some (Some b) → HasObject t b

-- each word is nil or leads to an object
abbrev pub LeadToObjects : Table → List (Option ℕ) → Type 0
LeadToObjects t words = (i a : ℕ) → slice_get words i ≡ Some (Some a) → HasObject t a

-- the table is as large as before, still linked, its objects stay with their words and pointers, and no top falls
pub record KeepsTable (t t' : Table) : Type 0 where
  pub count : length t'.regions ≡ length t.regions
  pub size : t'.words_per_region ≡ t.words_per_region
  pub linked : IsLinked t → IsLinked t'
  pub tops : (k : ℕ) → top_of t k ≤ top_of t' k
  pub stays : (a : ℕ) → HasObject t a → HasObject t' a
  pub words : (a : ℕ) → HasObject t a → object_words t' a ≡ object_words t a
  pub pointers : (a : ℕ) → HasObject t a → length (pointers_at t' a) ≡ length (pointers_at t a)
