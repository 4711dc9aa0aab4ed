-- How many words of each region are marked, as they were counted while marking went on.
use Rattle.std.specs.Prelude.{◌≡◌, ℕ, ◌+◌, ◌*◌, ◌<◌, Bool, List, length, replicate, slice_index, slice_set}
use Rattle.regions.specs.Table.{Table}
use Rattle.mark_bitmap.specs.Live.{marked_words}

-- a number of words for each region: of the marking that is over, and of the one that runs
pub record LiveCounts : Type 0 where
  pub previous : List ℕ
  pub next : List ℕ

-- of so many regions nothing is counted
abbrev pub nothing_counted : ℕ → LiveCounts
nothing_counted regions = record { previous = replicate regions 0; next = replicate regions 0 }

-- the previous and the next in each other's place
abbrev pub counts_exchanged : LiveCounts → LiveCounts
counts_exchanged l = record { previous = l.next; next = l.previous }

-- so many words more of region k in the marking that runs
abbrev pub with_more : LiveCounts → ℕ → ℕ → LiveCounts
with_more l k words = record { previous = l.previous; next = slice_set l.next k (slice_index l.next k + words) }

-- nothing is counted of region k
abbrev pub with_none : LiveCounts → ℕ → LiveCounts
with_none l k = record { previous = slice_set l.previous k 0; next = slice_set l.next k 0 }

-- each region's count is the words of the marked objects that start in it
pub record CountsWords (t : Table) (marks : List Bool) (counts : List ℕ) : Type 0 where
  pub each_region : length counts ≡ length t.regions
  pub each : (k : ℕ) → k < length t.regions → slice_index counts k ≡ marked_words t marks (k * t.words_per_region) t.words_per_region
