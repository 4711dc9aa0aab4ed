-- The core of a new heap.
use Rattle.std.specs.Prelude.{ℕ, ◌*◌, ◌/◌, ◌%◌, ◌==◌, ◌||◌, not, if◌then◌else◌, None, replicate}
use Rattle.heap_words.specs.declared.config.Config.{Config}
use Rattle.heap_words.specs.Configs.{card_words}
use Rattle.heap_steps.specs.Actors.{is_third}
use Rattle.regions.specs.Table.{free_table}
use Rattle.alloc_buffers.specs.Placement.{closed}
use Rattle.marker.specs.Views.{fresh_marker}
use Rattle.cards.specs.Cards.{clean_cards}
use Rattle.remembered_sets.specs.Sets.{empty_sets}
use Rattle.region_choice.specs.Ages.{fresh_ages}
use Rattle.graph_runs.specs.State.{root_places}
use Rattle.step_core.specs.Stands.{CoreState, root_counts_of}

-- how many rows of the second kind a set's filter has: 21 for 32 words of a card, so that a filter takes 63 bits for 32 words of a region;
-- none in the first two formats, whose heaps are small, and where a region's cards are no whole groups of 64
abbrev pub filter_rows : Config → ℕ
filter_rows c = if not (is_third c.format) || not (c.words / card_words c % 64 == 0) then 0 else 21 * card_words c / 32

-- every region is free and none young, no buffer open, nothing marked, each card clean, each set empty and each root nil
abbrev pub fresh_core : Config → CoreState
fresh_core c = record {
  config = c;
  table = free_table c.regions c.words;
  buffers = closed c.buffer c.mutators;
  marker = fresh_marker c;
  cards = clean_cards (c.regions * (c.words / card_words c)) c.mutators;
  sets = empty_sets c.regions (c.words / card_words c) (filter_rows c);
  room = record { regions = c.regions; cards = c.regions * (c.words / card_words c) };
  row_room = c.regions;
  ages = fresh_ages c.regions;
  places = root_counts_of c;
  roots = replicate (root_places (root_counts_of c)) None;
  next = c.first_name;
  clearing = None;
}
