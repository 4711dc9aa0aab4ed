-- Remembered sets, and which cards they cover.
use Rattle.std.specs.Prelude.{◌≡◌, ◌≢◌, ℕ, ◌+◌, ◌/◌, ◌%◌, ◌*◌, ◌<◌, ◌≤◌, Bool, true, false, ◌==◌, ◌||◌, ◌&&◌, nat_lt, if◌then◌else◌, ⊤}
use Rattle.std.specs.Prelude.{All, count_by, List, [], ◌∷◌, ◌++◌, length, map, slice_index_or, slice_set, replicate}
use Rattle.std.specs.List.{list_any, range_with_len}
use Rattle.bit_sets.specs.Bits.{has}

-- a set's filter: rows of flags, in each one for each card of a region, twice as many of a first kind as of a second. The cards of a region
-- share a row of each kind with those of other regions. Where it has no rows it lets each card through
pub record CardFilter : Type 0 where
  pub rows : ℕ
  pub flags : List Bool

-- one region's set: cards that stand inline, for each region whether it is marked whole, and a filter
pub record CardSet : Type 0 where
  pub inline : List ℕ
  pub sources : List Bool
  pub filter : CardFilter

-- a set for each region, how many cards a region has, and a flag for each card: whether it entered a set since the set of its own region
-- was last emptied
pub record Sets : Type 0 where
  pub sets : List CardSet
  pub cards_per_region : ℕ
  pub entered : List Bool

-- ---- one filter
-- the rows of a region's cards, one of each kind: regions that share one of the first kind have others of the second, as long as there are
-- some
abbrev pub first_row : ℕ → ℕ → ℕ
first_row rows source = source % (2 * rows)

unfoldable pub second_row : ℕ → ℕ → ℕ
second_row rows source = 2 * rows + (source % rows + source / (2 * rows)) % rows

-- a card's place in a row, where a row has so many cards
abbrev pub place_in : ℕ → ℕ → ℕ → ℕ
place_in row cards_per_region card = row * cards_per_region + card % cards_per_region

-- whether the filter lets the card through: its places in both its rows are taken
abbrev pub lets_through : CardFilter → ℕ → ℕ → Bool
lets_through f cards_per_region card = f.rows == 0
    || (has f.flags (place_in (first_row f.rows (card / cards_per_region)) cards_per_region card)
    && has f.flags (place_in (second_row f.rows (card / cards_per_region)) cards_per_region card))

-- the filter once the card's places are taken
abbrev pub taking : CardFilter → ℕ → ℕ → CardFilter
taking f cards_per_region card = record {
  rows = f.rows;
  flags = slice_set (slice_set f.flags (place_in (first_row f.rows (card / cards_per_region)) cards_per_region card) true)
      (place_in (second_row f.rows (card / cards_per_region)) cards_per_region card) true;
}

-- the filter once it lets the card through
abbrev pub filter_with : CardFilter → ℕ → ℕ → CardFilter
filter_with f cards_per_region card = if f.rows == 0 then f else taking f cards_per_region card

-- the filter, emptied
abbrev pub emptied_filter : CardFilter → CardFilter
emptied_filter f = record { rows = f.rows; flags = replicate (length f.flags) false }

-- a filter with so many rows of the second kind, which lets no card through if it has rows
abbrev pub empty_filter : ℕ → ℕ → CardFilter
empty_filter cards_per_region rows = record { rows = rows; flags = replicate (3 * rows * cards_per_region) false }

-- ---- one set
abbrev pub empty_set : ℕ → ℕ → ℕ → CardSet
empty_set regions cards_per_region rows = record {
  inline = [];
  sources = replicate regions false;
  filter = empty_filter cards_per_region rows;
}

-- the set, emptied
abbrev pub emptied : CardSet → CardSet
emptied set = record {
  inline = [];
  sources = replicate (length set.sources) false;
  filter = emptied_filter set.filter;
}

-- no set at all
abbrev pub no_set : CardSet
no_set = empty_set 0 0 0

-- whether the set covers a card of a region: it stands inline, or the region is marked whole
abbrev pub set_covers : CardSet → ℕ → ℕ → Bool
set_covers set card source = list_any (λ c. c == card) set.inline || slice_index_or set.sources source false

-- the set with a card of a region: inline while fewer than sixteen stand there, else the region is marked whole
abbrev pub set_with : CardSet → ℕ → ℕ → CardSet
set_with set card source =
    if set_covers set card source then set
    else if nat_lt (length set.inline) 16
    then record { inline = set.inline ++ card ∷ []; sources = set.sources; filter = set.filter }
    else record { inline = set.inline; sources = slice_set set.sources source true; filter = set.filter }

-- the set once its filter lets the card through
abbrev pub letting : CardSet → ℕ → ℕ → CardSet
letting set cards_per_region card =
    record { inline = set.inline; sources = set.sources; filter = filter_with set.filter cards_per_region card }

-- the set with a card, which its filter lets through then
abbrev pub set_after : CardSet → ℕ → ℕ → CardSet
set_after set cards_per_region card = set_with (letting set cards_per_region card) card (card / cards_per_region)

-- whether a card that entered a set, or didn't, may have a field that leads into the set's region: the set covers it, it entered a set, and
-- the set's filter lets it through
abbrev pub set_leads : CardSet → ℕ → Bool → ℕ → Bool
set_leads set cards_per_region is_in card =
    set_covers set card (card / cards_per_region) && (is_in && lets_through set.filter cards_per_region card)

-- ---- all sets
abbrev pub empty_sets : ℕ → ℕ → ℕ → Sets
empty_sets regions cards_per_region rows = record {
  sets = replicate regions (empty_set regions cards_per_region rows);
  cards_per_region = cards_per_region;
  entered = replicate (regions * cards_per_region) false;
}

-- how many cards all regions have
abbrev pub card_count : Sets → ℕ
card_count s = length s.sets * s.cards_per_region

-- the set of a region
abbrev pub set_of : Sets → ℕ → CardSet
set_of s region = slice_index_or s.sets region no_set

-- whether the region's set covers the card
abbrev pub covers : Sets → ℕ → ℕ → Bool
covers s region card = set_covers (set_of s region) card (card / s.cards_per_region)

-- whether a field in the card may lead into the region: the region's set covers the card, the card entered a set since the set of its own
-- region was last emptied, and the set's filter lets it through
abbrev pub may_lead : Sets → ℕ → ℕ → Bool
may_lead s region card = set_leads (set_of s region) s.cards_per_region (has s.entered card) card

-- how many cards may have a field that leads into the region
abbrev pub cards_into : Sets → ℕ → ℕ
cards_into s region = count_by (may_lead s region) (range_with_len 0 (card_count s))

-- the card is added to the region's set
abbrev pub added : Sets → ℕ → ℕ → Sets
added s region card = record {
  sets = slice_set s.sets region (set_after (set_of s region) s.cards_per_region card);
  cards_per_region = s.cards_per_region;
  entered = slice_set s.entered card true;
}

-- the flags without those of a region's own cards, of which it has so many
abbrev pub without_region : ℕ → ℕ → List Bool → List Bool
without_region cards_per_region region flags =
    map (λ card. if card / cards_per_region == region then false else has flags card) (range_with_len 0 (length flags))

-- the region's set is emptied, and its own cards have entered none
abbrev pub cleared : Sets → ℕ → Sets
cleared s region = record {
  sets = slice_set s.sets region (emptied (set_of s region));
  cards_per_region = s.cards_per_region;
  entered = without_region s.cards_per_region region s.entered;
}

-- how often a card stands in a list
abbrev pub times_in : ℕ → List ℕ → ℕ
times_in card cards = count_by (λ c. c == card) cards

-- what every filter is: it has its rows, and a row is whole groups of 64 flags
pub record IsFilter (cards_per_region : ℕ) (f : CardFilter) : Type 0 where
  pub size : length f.flags ≡ 3 * f.rows * cards_per_region
  pub whole : 0 < f.rows → cards_per_region % 64 ≡ 0

-- what every set is, among so many regions with so many cards each: sixteen cards at most stand inline, each once, each region has a
-- mark, and it has a filter
pub record IsSet (regions cards_per_region : ℕ) (set : CardSet) : Type 0 where
  pub few : length set.inline ≤ 16
  pub once : (card : ℕ) → times_in card set.inline ≤ 1
  pub known : All (λ c. c < regions * cards_per_region) set.inline
  pub marks : length set.sources ≡ regions
  pub filter : IsFilter cards_per_region set.filter

-- what all sets are
pub record AreSets (s : Sets) : Type 0 where
  pub some_cards : 0 < s.cards_per_region
  pub each : All (IsSet (length s.sets) s.cards_per_region) s.sets
  pub each_card : length s.entered ≡ card_count s

-- ---- over a run
pub data Change : Type 0 where
  Add : (region card : ℕ) → Change
  Clear : (region : ℕ) → Change

abbrev pub changed : Sets → Change → Sets
changed s (Add region card) = added s region card
changed s (Clear region) = cleared s region

abbrev pub after_all : List Change → Sets → Sets
after_all [] s = s
after_all (change ∷ changes) s = after_all changes (changed s change)

-- the change doesn't clear the region's set
abbrev pub LeavesSet : ℕ → Change → Type 0
LeavesSet region (Add r card) = ⊤
LeavesSet region (Clear r) = r ≢ region
