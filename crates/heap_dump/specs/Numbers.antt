-- The numbers of a heap at a moment.
use Rattle.std.specs.Prelude.{◌≡◌, ℕ, ◌+◌, [], length, slice_index_or}
use Rattle.regions.specs.Table.{free_count}
use Rattle.step_core.specs.Stands.{CoreState}
use Rattle.step_core.specs.Measures.{sum_below, used_words, live_words}
use Rattle.heap_dump.specs.declared.numbers.Numbers.{Numbers}

-- how many cards are in a mutator's log
abbrev pub logged_of : CoreState → ℕ → ℕ
logged_of c m = length (slice_index_or c.cards.logs m [])

-- words handed out and live words over all regions, free regions, cards in the queue, and those with the cards in logs
pub record IsNumbersOf (c : CoreState) (n : Numbers) : Type 0 where
  pub handed_out : n.handed_out ≡ used_words c
  pub live : n.live ≡ live_words c
  pub free : n.free ≡ free_count c.table
  pub queued : n.queued ≡ length c.cards.queue
  pub dirty : n.dirty ≡ length c.cards.queue + sum_below (logged_of c) c.config.mutators
