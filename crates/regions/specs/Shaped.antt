-- What the value of every table meets beside what its type says.
use Rattle.std.specs.Prelude.{◌≡◌, ℕ, ◌+◌, ◌-◌, ◌*◌, ◌<◌, ◌≤◌, ◌⊎◌, false, Some, [], length, min}
use Rattle.heap_words.specs.Configs.{max_words, max_region_words}
use Rattle.heap_model.specs.Heap.{Stored}
use Rattle.regions.specs.Tiles.{Tile, Object, tile_size}
use Rattle.regions.specs.Table.{Table, First, Rest, nth_region, region_at, is_free, kind_of, tile_in, object_at, AreTargetsRight}
use Rattle.regions.specs.Walks.{AreFitting}
use Rattle.regions.specs.declared.row.Kind.TheVariants as kinds

-- region k is a later one of a run, and n of its words are the run's object's
pub record IsLater (t : Table) (k n : ℕ) : Type 0 where
  pub first : ℕ
  pub later : ℕ
  pub object : Stored
  pub number : first + later ≡ k
  pub behind : 0 < later
  pub begins : nth_region t first ≡ First object
  pub reaches : later * t.words_per_region < tile_size (Object object)
  pub words : n ≡ min t.words_per_region (tile_size (Object object) - later * t.words_per_region)

-- the object has no held slots, or one for each weak slot
abbrev pub IsPaired : Stored → Type 0
IsPaired s = (s.held ≡ []) ⊎ (length s.held ≡ length s.weaks)

-- what is known of every table
pub record IsShaped (t : Table) : Type 0 where
  pub positive : 0 < t.words_per_region
  pub small : t.words_per_region ≤ max_region_words
  pub in_all : length t.regions * t.words_per_region ≤ max_words
  pub fitting : AreFitting t
  -- each tile's words lie in the heap
  pub within : (a : ℕ) (tile : Tile) → tile_in t a ≡ Some tile → a + tile_size tile ≤ length t.regions * t.words_per_region
  -- the regions that a run reaches are its later ones, and there are no others
  pub run : (k j : ℕ) (object : Stored) → nth_region t k ≡ First object → 0 < j → j * t.words_per_region < tile_size (Object object)
      → kind_of t (k + j) ≡ kinds.Rest
  pub later : (k n : ℕ) → nth_region t k ≡ Rest n → IsLater t k n
  pub targets : AreTargetsRight t
  -- an object is plain, or one of pairs
  pub paired : (a : ℕ) (object : Stored) → object_at t a ≡ Some object → IsPaired object

-- the object at an address has no held slots, if one is there
abbrev pub IsBareAt : Table → ℕ → Type 0
IsBareAt t a = (object : Stored) → object_at t a ≡ Some object → object.held ≡ []

-- no object has held slots
abbrev pub AreBare : Table → Type 0
AreBare t = (a : ℕ) → IsBareAt t a

-- so many words from an address on lie in regions that aren't free
abbrev pub AreInUse : Table → ℕ → ℕ → Type 0
AreInUse t a n = (i : ℕ) → i < n → is_free (region_at t (a + i)) ≡ false
