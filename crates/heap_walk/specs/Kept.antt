-- Where kept objects start, over all regions.
use Rattle.std.specs.Prelude.{◌≡◌, ℕ, ◌+◌, ◌<◌, ◌≤◌, Option, Some, None, IsSome}
use Rattle.step_core.specs.Stands.{CoreState, kept_of, name_of}

-- the lowest kept object from an address on
pub record IsLowestKept (c : CoreState) (a b : ℕ) : Type 0 where
  pub above : a ≤ b
  pub kept : IsSome (kept_of c b)
  pub between : (x : ℕ) → a ≤ x → x < b → IsSome (kept_of c x) → ⊥

-- where the lowest kept object from an address on starts, none where no kept object does
abbrev pub IsKeptFrom : CoreState → ℕ → Option ℕ → Type 0
IsKeptFrom c a None = (x : ℕ) → a ≤ x → IsSome (kept_of c x) → ⊥
IsKeptFrom c a (Some b) = IsLowestKept c a b

-- the address after a kept object's, or the lowest one
abbrev pub place_above : Option ℕ → ℕ
place_above None = 0
place_above (Some a) = a + 1

-- a kept object of this name starts at an address, or there is none
abbrev pub IsObjectOf : CoreState → ℕ → Option ℕ → Type 0
IsObjectOf c n None = (a : ℕ) → name_of (kept_of c a) ≡ Some n → ⊥
IsObjectOf c n (Some a) = name_of (kept_of c a) ≡ Some n
