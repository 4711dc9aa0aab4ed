-- How remembered sets are kept.
use Rattle.std.specs.Prelude.{◌≡◌, ◌*◌, ◌≤◌, ℕ, false, List, length}
use Rattle.remembered_sets.specs.Sets.{CardFilter, CardSet, Sets, AreSets}
use Rattle.remembered_sets.specs.Sharing.{no_filter, filter_of, four_filters, with_filters}
use Rattle.remembered_sets.specs.declared.filter.Filter.TheInside.{Inside as FilterInside}
use Rattle.remembered_sets.specs.declared.set.RememberedSet.TheInside.{Inside as SetInside}
use Rattle.remembered_sets.specs.declared.sets.RememberedSets.TheInside.{Inside}

-- what contracts see of the fields: a set by itself has no filter
abbrev pub set_of : SetInside → CardSet
set_of s = record { inline = s.inline; sources = s.sources; filter = no_filter }

-- the filters of four neighbouring regions
abbrev pub four_of : FilterInside → List CardFilter
four_of f = four_filters f.rows f.used f.flags f.size

-- each of the four has its part of the table
abbrev pub IsSoundFilter : FilterInside → Type 0
IsSoundFilter f = length f.flags ≡ 4 * f.size

abbrev pub sets_of : Inside → Sets
sets_of s = record {
  sets = with_filters s.filters.items s.sets.items;
  cards_per_region = s.cards_per_region;
  entered = s.entered;
}

-- there is a table for each four regions, and it is known whether the filters have rows
pub record IsSetTable (s : Inside) : Type 0 where
  pub all : AreSets (sets_of s)
  pub tables : length s.sets.items ≤ 4 * length s.filters.items
  pub none : s.have_rows ≡ false → (region : ℕ) → (filter_of s.filters.items region).rows ≡ 0
