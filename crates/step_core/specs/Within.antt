-- Which of some rows' regions few cards may lead into.
use Rattle.std.specs.Prelude.{◌≡◌, ℕ, ◌+◌, ◌<◌, ◌≤◌, nat_le, List, Some, filter, length, slice_get, sum_by, take}
use Rattle.remembered_sets.specs.Sets.{Sets, cards_into}
use Rattle.region_choice.specs.declared.LiveRow.{LiveRow}

-- how many cards may lead into the rows' regions: a card that may lead into several counts for each
abbrev pub cards_sum : Sets → List LiveRow → ℕ
cards_sum s rows = sum_by (λ row. cards_into s row.region) rows

-- the rows of the regions that at most so many cards may lead into, in their order
abbrev pub with_few_cards : Sets → ℕ → List LiveRow → List LiveRow
with_few_cards s cards rows = filter (λ row. nat_le (cards_into s row.region) cards) rows

-- Taken are, of the rows of the regions that at most so many cards may lead into each, as many from the front as have at most so many
-- cards together. The next one has too many
pub record AreWithin (s : Sets) (cards : ℕ) (rows taken : List LiveRow) : Type 0 where
  pub front : taken ≡ take (length taken) (with_few_cards s cards rows)
  pub within : cards_sum s taken ≤ cards
  pub next : (row : LiveRow) → slice_get (with_few_cards s cards rows) (length taken) ≡ Some row
      → cards < cards_sum s taken + cards_into s row.region
