-- The lines of a record on their way to a writer.
use Rattle.std.specs.Prelude.{◌≡◌, ℕ, ◌≤◌, List, [], ◌++◌, length, take, drop}
use Rattle.heap_words.specs.declared.config.Config.{Config}
use Rattle.heap_steps.specs.Actors.{EventList}
use Rattle.heap_steps.specs.declared.step.Event.{Event}
use Rattle.script_text.specs.Records.{record_text}
use Rattle.script_text.specs.Watched.{Writer, TookBytes}

-- how many events have their line, and the bytes that are still to be written
pub record Lines : Type 0 where
  pub events : ℕ
  pub held : List ℕ

-- a record of no events
abbrev pub no_events : Config → EventList
no_events config = record { config = config; events = [] }

-- the record with more events after its own
abbrev pub with_events : EventList → List Event → EventList
with_events r more = record { config = r.config; events = r.events ++ more }

-- a beginning of the text is written, and the rest of it is held
pub record IsWriting (text : List ℕ) (first now : Writer) (held : List ℕ) : Type 0 where
  pub done : ℕ
  pub within : done ≤ length text
  pub written : TookBytes first now (take done text)
  pub rest : held ≡ drop done text

-- the lines are those of the record: since `first` the writer took a beginning of its text, and the rest is held
pub record AreLinesOf (r : EventList) (first now : Writer) (lines : Lines) : Type 0 where
  pub counted : lines.events ≡ length r.events
  pub text : IsWriting (record_text r) first now lines.held
