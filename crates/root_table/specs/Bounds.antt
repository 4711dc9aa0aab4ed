-- How a table of roots is laid out, and the bounds of its rows.
use Rattle.std.specs.Prelude.{◌≡◌, ℕ, ◌+◌, ◌<◌, ◌≤◌, ◌^◌, ◌++◌, List, Option, length, slice_index}
use Rattle.heap_model.specs.Graph.{RootCounts, root_places}
use Rattle.root_table.specs.Roots.{row_start, row_length, AreNil}

-- there is a place for each root, and a bound for each row that is in use, from which on the row's roots are nil
pub record AreBounded (p : RootCounts) (words : List (Option ℕ)) (used : List ℕ) : Type 0 where
  pub places : length words ≡ root_places p
  pub rows : p.mutators < length used
  pub within : (row : ℕ) → row ≤ p.mutators → slice_index used row ≤ row_length p row
  pub nil : (row : ℕ) → row ≤ p.mutators → AreNil words (row_start p row + slice_index used row) (row_start p row + row_length p row)

-- globals and registers are apart; a place's number has 32 bits, and there are at most 64 mutators
pub record IsRootTable (p : RootCounts) (globals registers : List (Option ℕ)) (used : List ℕ) : Type 0 where
  pub bounded : AreBounded p (globals ++ registers) used
  pub apart : length globals ≡ p.globals
  pub few_places : root_places p < 2 ^ 32
  pub few_mutators : p.mutators ≤ 64
