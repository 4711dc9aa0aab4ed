-- The words of 64 bits that hold a set of numbers: bit a % 64 of word a / 64 is the flag of the number a. A word past the end is 0, so none
-- of its numbers is in the set.
use Rattle.std.specs.Prelude.{◌≡◌, ℕ, ◌/◌, ◌%◌, Bool, ◌==◌, List, map, slice_index}
use Rattle.std.specs.Int.{bit_at}
use Rattle.std.specs.List.{range_with_len}

-- the bit of a number
abbrev pub bit_of : List ℕ → ℕ → Bool
bit_of words number = bit_at (slice_index words (number / 64)) (number % 64) == 1

-- the flags that the words hold
unfoldable pub flags_of : List ℕ → ℕ → List Bool
flags_of words len = map (bit_of words) (range_with_len 0 len)

-- the same words, but for zeros after the last
abbrev pub AreSame : List ℕ → List ℕ → Type 0
AreSame words others = (i : ℕ) → slice_index words i ≡ slice_index others i
