-- Rows of candidates, and which of them are best to reclaim.
use Rattle.std.specs.Prelude.{◌≡◌, ℕ, ◌-◌, ◌*◌, ◌/◌, ◌<◌, ◌≤◌, false, min, List, ◌++◌, ◌+◌, drop, length, slice_index_or, sum_by, take}
use Rattle.std.specs.Prelude.{All, IsPermutation, IsSorted}
use Rattle.std.specs.declared.cmp.Ordering.{Ordering}
use Rattle.std.specs.List.{AllWithin}
use Rattle.std.specs.Ordering.{nat_cmp, ordering_then, is_lt}
use Rattle.region_choice.specs.declared.LiveRow.{LiveRow}

-- the order in which rows are taken: by live bound, then by region
abbrev pub row_cmp : LiveRow → LiveRow → Ordering
row_cmp a b = ordering_then (nat_cmp a.live_bound b.live_bound) (nat_cmp a.region b.region)

-- none of the others comes before one of these rows
abbrev pub ComeFirst : List LiveRow → List LiveRow → Type 0
ComeFirst rows others = All (λ row. All (λ other. is_lt (row_cmp other row) ≡ false) others) rows

-- from one place up to another, no row comes before the one at a place
abbrev pub IsFirstFrom : ℕ → ℕ → ℕ → List LiveRow → Type 0
IsFirstFrom low high place rows = (k : ℕ) (d : LiveRow) → low ≤ k → k < high
    → is_lt (row_cmp (slice_index_or rows k d) (slice_index_or rows place d)) ≡ false

-- the first n rows have live bounds up to a level, and the others higher ones
pub record AreParted (level n : ℕ) (rows : List LiveRow) : Type 0 where
  pub low : AllWithin (λ row. row.live_bound ≤ level) rows 0 n
  pub high : AllWithin (λ row. level < row.live_bound) rows n (length rows)

-- the most words that may be copied: the budget, and half of the free regions' words
abbrev pub copy_limit : ℕ → ℕ → ℕ → ℕ
copy_limit words budget free = min budget (free * words / 2)

-- the words that reclaiming the rows copies, at most
abbrev pub live_sum : List LiveRow → ℕ
live_sum rows = sum_by (λ row. row.live_bound) rows

-- the words that reclaiming the rows frees, at least
abbrev pub freed_sum : ℕ → List LiveRow → ℕ
freed_sum words rows = sum_by (λ row. words - row.live_bound) rows

-- the first n rows are in order, the others after them, and within the limit
pub record AreFirst (limit n : ℕ) (rows : List LiveRow) : Type 0 where
  pub count : n ≤ length rows
  pub sorted : IsSorted row_cmp (take n rows)
  pub first : ComeFirst (take n rows) (drop n rows)
  pub within : live_sum (take n rows) ≤ limit

-- with the first n rows none of the others is within the limit
abbrev pub NoneFits : ℕ → ℕ → List LiveRow → Type 0
NoneFits limit n rows = All (λ row. limit < live_sum (take n rows) + row.live_bound) (drop n rows)

-- some of the rows, in any order, and the rest of them
pub record IsPartOf (part rows : List LiveRow) : Type 0 where
  pub rest : List LiveRow
  pub whole : IsPermutation rows (part ++ rest)

-- some of the rows, within the limit, and no others within the limit free more
pub record IsBestWithin (words limit : ℕ) (rows best : List LiveRow) : Type 0 where
  pub part : IsPartOf best rows
  pub within : live_sum best ≤ limit
  pub most : (other : List LiveRow) → IsPartOf other rows → live_sum other ≤ limit → freed_sum words other ≤ freed_sum words best
