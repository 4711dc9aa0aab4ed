-- The table of roots, as contracts see it.
use Rattle.std.specs.Prelude.{◌≡◌, ◌≢◌, ◌⊎◌, ℕ, zero, suc, ◌≤◌, ◌<◌, List, Option, Some, None, length, slice_index_or}
use Rattle.heap_words.specs.declared.config.Config.{Config}
use Rattle.heap_words.specs.Configs.{globals_of, registers_of}
use Rattle.heap_model.specs.Graph.{RootCounts, register_place}
use Rattle.heap_model.specs.Redirection.{redirected}

-- how many globals, mutators and registers sizes ask for
abbrev pub root_counts_of : Config → RootCounts
root_counts_of c = record { globals = globals_of c; mutators = c.mutators; registers = registers_of c }

-- what each root place holds
pub record RootTable : Type 0 where
  pub places : RootCounts
  pub words : List (Option ℕ)

-- where a row starts: row 0 is the globals, and the row of a mutator's registers is its number and one
abbrev pub row_start : RootCounts → ℕ → ℕ
row_start p zero = 0
row_start p (suc mutator) = register_place p mutator 0

-- how many places a row has
abbrev pub row_length : RootCounts → ℕ → ℕ
row_length p zero = p.globals
row_length p (suc mutator) = p.registers

-- all places from one on, below another, hold nil
abbrev pub AreNil : List (Option ℕ) → ℕ → ℕ → Type 0
AreNil words from to = (place : ℕ) → from ≤ place → place < to → slice_index_or words place None ≡ None

-- the lowest place from one on that doesn't hold nil
pub record IsNextNamed (words : List (Option ℕ)) (from place : ℕ) : Type 0 where
  pub from_on : from ≤ place
  pub nil_before : AreNil words from place
  pub address : ℕ
  pub holds : slice_index_or words place None ≡ Some address

-- no place from one on, below another, holds an address
abbrev pub HoldNowhere : List (Option ℕ) → ℕ → ℕ → ℕ → Type 0
HoldNowhere words at from to = (place : ℕ) → from ≤ place → place < to → slice_index_or words place None ≢ Some at

-- the lowest place from one on that holds an address
pub record IsNextHolder (words : List (Option ℕ)) (at from place : ℕ) : Type 0 where
  pub from_on : from ≤ place
  pub not_before : HoldNowhere words at from place
  pub holds : slice_index_or words place None ≡ Some at

-- what holds one address of the places from one on, below another, holds the other address now, and all else is as it was
pub record AreRedirectedBetween (from to first past : ℕ) (old now : List (Option ℕ)) : Type 0 where
  pub count : length now ≡ length old
  pub done : (place : ℕ) → first ≤ place → place < past → slice_index_or now place None ≡ redirected from to (slice_index_or old place None)
  pub left : (place : ℕ) → (place < first) ⊎ (past ≤ place) → slice_index_or now place None ≡ slice_index_or old place None
