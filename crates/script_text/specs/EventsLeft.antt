-- The events that are left of a record's text, and the fault after them.
use Rattle.std.specs.Prelude.{ℕ, ◌+◌, List, [], ◌∷◌, Option, Some, None, Result, Ok, Err}
use Rattle.heap_words.specs.declared.config.Config.{Config}
use Rattle.heap_steps.specs.Actors.{EventList}
use Rattle.heap_steps.specs.declared.step.Event.{Event}
use Rattle.script_text.specs.declared.fault.Kind.{Kind}
use Rattle.script_text.specs.declared.fault.LineFault.{LineFault}
use Rattle.script_text.specs.Events.{event_line_of, events_of}
use Rattle.script_text.specs.Lines.{pieces_of}

-- what is left of a record: its sizes, the events up to its end or to the first line with a fault, and that line's fault
pub record EventsLeft : Type 0 where
  pub config : Config
  pub events : List Event
  pub fault : Option LineFault

-- the event of a line in front of those after it; none where the line has a fault
abbrev pub in_front : Result Event Kind → List Event → List Event
in_front (Ok e) es = e ∷ es
in_front (Err k) es = []

-- the events of the lines from event n on, as far as no line has a fault
unfoldable pub events_ahead : ℕ → Config → List (List ℕ) → List Event
events_ahead n c [] = []
events_ahead n c (last ∷ []) = []
events_ahead n c (line ∷ next ∷ lines) = in_front (event_line_of n c line) (events_ahead (n + 1) c (next ∷ lines))

abbrev pub fault_of : Result (List Event) LineFault → Option LineFault
fault_of (Ok es) = None
fault_of (Err fault) = Some fault

-- the first fault of the lines from event n on
abbrev pub fault_ahead : ℕ → Config → List (List ℕ) → Option LineFault
fault_ahead n c lines = fault_of (events_of n c lines)

-- what the lines of a text have, the first of which is that of event n
abbrev pub left_in : ℕ → Config → List ℕ → EventsLeft
left_in n c lines = record { config = c; events = events_ahead n c (pieces_of lines); fault = fault_ahead n c (pieces_of lines) }

abbrev pub unless : Option LineFault → EventList → Result EventList LineFault
unless None r = Ok r
unless (Some fault) r = Err fault

-- the record that has these events, or the fault
abbrev pub history_of : EventsLeft → Result EventList LineFault
history_of left = unless left.fault (record { config = left.config; events = left.events })
