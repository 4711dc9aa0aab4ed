-- Where tiles start, over all regions.
use Rattle.std.specs.Prelude.{ℕ, ◌*◌, ◌<◌, ◌≤◌, Option, Some, None, IsSome, length}
use Rattle.regions.specs.Table.{Table, tile_in}

-- no tile starts from one address on to below another
abbrev pub NoneStarts : Table → ℕ → ℕ → Type 0
NoneStarts t a b = (x : ℕ) → a ≤ x → x < b → IsSome (tile_in t x) → ⊥

-- the lowest tile from an address on
pub record IsLowestFrom (t : Table) (a b : ℕ) : Type 0 where
  pub above : a ≤ b
  pub tile : IsSome (tile_in t b)
  pub between : NoneStarts t a b

-- where the lowest tile from an address on starts, none where no tile does
abbrev pub IsTileFrom : Table → ℕ → Option ℕ → Type 0
IsTileFrom t a None = (x : ℕ) → a ≤ x → IsSome (tile_in t x) → ⊥
IsTileFrom t a (Some b) = IsLowestFrom t a b

-- how many words the heap has
abbrev pub word_count : Table → ℕ
word_count t = length t.regions * t.words_per_region

-- an address, or the heap's end
abbrev pub place_of : Table → Option ℕ → ℕ
place_of t None = word_count t
place_of t (Some a) = a
