-- The tops at mark start of each region, and which addresses lie below them.
use Rattle.std.specs.Prelude.{ℕ, ◌+◌, ◌*◌, ◌/◌, ◌<◌, ◌≤◌, Bool, nat_lt, List, length, map, slice_index, slice_set}
use Rattle.std.specs.List.{range_with_len}
use Rattle.regions.specs.Table.{Table}
use Rattle.mark_bitmap.specs.Marks.{is_between}

-- an address for each region: its top when the marking that is over began, and when the present one began
pub record Tops : Type 0 where
  pub previous : List ℕ
  pub next : List ℕ

-- the bottom of each region
abbrev pub bottoms : ℕ → ℕ → List ℕ
bottoms count words = map (λ k. k * words) (range_with_len 0 count)

-- the address lies in region k, a region having so many words
abbrev pub is_in_region : ℕ → ℕ → ℕ → Bool
is_in_region words k a = is_between (k * words) (k * words + words) a

-- the address lies below the top of its region, a region having so many words
unfoldable pub is_below : ℕ → List ℕ → ℕ → Bool
is_below words tops a = nat_lt a (slice_index tops (a / words))

-- the region in which an address lies below the top
pub record LiesBelow (words : ℕ) (tops : List ℕ) (a : ℕ) : Type 0 where
  pub region : ℕ
  pub known : region < length tops
  pub at_least : region * words ≤ a
  pub less : a < region * words + words
  pub below : a < slice_index tops region

-- below its region's previous top at mark start
abbrev pub below_previous : Table → Tops → ℕ → Bool
below_previous t tops = is_below t.words_per_region tops.previous

-- below its region's next top at mark start
abbrev pub below_next : Table → Tops → ℕ → Bool
below_next t tops = is_below t.words_per_region tops.next

-- both tops of a region at its bottom
abbrev pub with_bottom : Tops → ℕ → ℕ → Tops
with_bottom tops k bottom = record { previous = slice_set tops.previous k bottom; next = slice_set tops.next k bottom }

-- the previous and the next in each other's place
abbrev pub exchanged : Tops → Tops
exchanged tops = record { previous = tops.next; next = tops.previous }

-- no next top lies below the previous one: so it is while marking runs
abbrev pub AreNewer : Tops → Type 0
AreNewer tops = (k : ℕ) → slice_index tops.previous k ≤ slice_index tops.next k
