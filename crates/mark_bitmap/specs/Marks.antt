-- Sets of addresses, as contracts see them: a flag for each address.
use Rattle.std.specs.Prelude.{ℕ, Bool, List, count_by}
use Rattle.bit_sets.specs.Bits.{has, has_alone}
-- whether an address lies between two, no set has one at or above another (and below a third), and the lowest one of a set there
pub use Rattle.bit_sets.specs.Bits.{is_between, HasNone, HasNoneBelow, IsLowest}

-- whether an address is marked: false past the end
abbrev pub is_marked : List Bool → ℕ → Bool
is_marked marks address = has marks address

-- whether an address is marked in the one and not in the other
abbrev pub is_only : List Bool → List Bool → ℕ → Bool
is_only marks other address = has_alone marks other address

-- how many addresses are marked
abbrev pub marked_count : List Bool → ℕ
marked_count marks = count_by (λ b. b) marks
