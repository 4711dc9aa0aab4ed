-- Filters of four neighbouring regions in one table of flags, and the sets that they belong to.
use Rattle.std.specs.Prelude.{ℕ, ◌+◌, ◌*◌, ◌/◌, ◌%◌, ◌&&◌, Bool, List, [], length, map, slice_index_or}
use Rattle.std.specs.List.{range_with_len}
use Rattle.bit_sets.specs.Bits.{has}
use Rattle.remembered_sets.specs.Sets.{CardFilter, CardSet, empty_filter, no_set}

-- a filter without rows
abbrev pub no_filter : CardFilter
no_filter = empty_filter 0 0

-- ---- one table
-- whether a place of one of the four parts is taken: its part was used since it was emptied, and its flag is set
abbrev pub is_taken : List Bool → List Bool → ℕ → ℕ → ℕ → Bool
is_taken used flags size part place = has used part && has flags (part * size + place)

-- the flags of one of the four parts, so many
abbrev pub part_flags : List Bool → List Bool → ℕ → ℕ → List Bool
part_flags used flags size part = map (λ place. is_taken used flags size part place) (range_with_len 0 size)

-- the filters of four neighbouring regions
unfoldable pub four_filters : ℕ → List Bool → List Bool → ℕ → List CardFilter
four_filters rows used flags size = map (λ part. record { rows = rows; flags = part_flags used flags size part }) (range_with_len 0 4)

-- one of them
abbrev pub filter_at : List CardFilter → ℕ → CardFilter
filter_at four part = slice_index_or four part no_filter

-- ---- all tables
-- the filter of a region: of the table that it has with its neighbours, the part that is its own
abbrev pub filter_of : List (List CardFilter) → ℕ → CardFilter
filter_of tables region = filter_at (slice_index_or tables (region / 4) []) (region % 4)

-- a set with this filter
abbrev pub with_filter : CardSet → CardFilter → CardSet
with_filter set f = record { inline = set.inline; sources = set.sources; filter = f }

-- the sets of all regions, each with its filter
unfoldable pub with_filters : List (List CardFilter) → List CardSet → List CardSet
with_filters tables sets = map (λ region. with_filter (slice_index_or sets region no_set) (filter_of tables region))
    (range_with_len 0 (length sets))
