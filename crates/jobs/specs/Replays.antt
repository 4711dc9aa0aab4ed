-- Replies of events whose steps were done again.
use Rattle.std.specs.Prelude.{◌≡◌, ◌≢◌, ◌<◌, ℕ, suc, List, length, map, take, slice_get}
use Rattle.heap_words.specs.declared.config.Config.{Config}
use Rattle.heap_steps.specs.Actors.{EventList, step_in}
use Rattle.heap_steps.specs.declared.step.Event.{Event}
use Rattle.heap_steps.specs.declared.step.Reply.{Reply}

abbrev pub reply_in : Event → Reply
reply_in e = e.reply

-- the replies of two lists of events are the same up to place i, counted from 0, and not there
pub record DifferFrom (given ran : List Event) (i : ℕ) : Type 0 where
  pub within : i < length given
  pub same : take i (map reply_in ran) ≡ take i (map reply_in given)
  pub other : slice_get (map reply_in ran) i ≢ slice_get (map reply_in given) i

-- To event n of these, counted from 1, a heap whose runs are given gives another reply than is there, and to none before it. It does
-- their steps.
pub record DiffersAt (IsRunFrom : Config → List Event → Type 0) (events : EventList) (n : ℕ) : Type 0 where
  pub ran : List Event
  pub runs : IsRunFrom events.config ran
  pub steps : map step_in ran ≡ map step_in events.events
  pub place : ℕ
  pub number : n ≡ suc place
  pub differ : DifferFrom events.events ran place
