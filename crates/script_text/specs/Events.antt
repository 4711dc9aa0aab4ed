-- The lines of a record, and the first fault.
use Rattle.std.specs.Prelude.{ℕ, ◌+◌, List, [], ◌∷◌, Option, Some, None, Result, Ok, Err, nat_lt, ◌==◌, if◌then◌else◌, codes, length}
use Rattle.std.specs.Str.{bytes_eq}
use Rattle.heap_words.specs.declared.config.Config.{Config}
use Rattle.heap_steps.specs.Actors.{EventList}
use Rattle.heap_steps.specs.declared.step.Actor.{Actor}
use Rattle.heap_steps.specs.declared.step.Actor.TheVariants as actors
use Rattle.heap_steps.specs.declared.step.Event.{Event}
use Rattle.script_text.specs.declared.fault.Kind.{Kind}
use Rattle.script_text.specs.declared.fault.Kind.TheVariants as kinds
use Rattle.script_text.specs.declared.fault.LineFault.{LineFault}
use Rattle.script_text.specs.Reading.{number_of, large}
use Rattle.script_text.specs.EventWords.{background_of, taken_of, step_part, answer_of}
use Rattle.script_text.specs.Lines.{◌>>=◌, or_fault, words_of, pieces_of, mutator_of, items_of, headed}

-- a mutator, where the word names no background actor
unfoldable pub foreground_of : Config → List ℕ → Option Actor → Result Actor Kind
foreground_of c word (Some a) = Ok a
foreground_of c word None = do
  m ← mutator_of c word
  Ok (actors.Mutator m)

unfoldable pub actor_of : Config → List ℕ → Result Actor Kind
actor_of c word = if bytes_eq word (codes "gc") then Ok actors.Collector else foreground_of c word (background_of word)

-- what follows the count
unfoldable pub counted_of : Config → List (List ℕ) → Result Event Kind
counted_of c [] = Err kinds.BadActor
counted_of c (word ∷ rest) = do
  a ← actor_of c word
  s ← or_fault (taken_of c a (step_part rest)) kinds.BadStep
  r ← or_fault (answer_of rest) kinds.BadReply
  Ok (record { actor = a; step = s; reply = r })

-- the event of this count
unfoldable pub event_of : ℕ → Config → List (List ℕ) → Result Event Kind
event_of n c [] = Err kinds.BadCount
event_of n c (word ∷ rest) = do
  count ← or_fault (number_of large word) kinds.BadCount
  if count == n then counted_of c rest else Err kinds.BadCount

-- a line of at most 120 bytes
unfoldable pub event_line_of : ℕ → Config → List ℕ → Result Event Kind
event_line_of n c line = if nat_lt 120 (length line) then Err kinds.LongLine else event_of n c (words_of line)

-- the events of the lines from event n on
abbrev pub events_of : ℕ → Config → List (List ℕ) → Result (List Event) LineFault
events_of n c lines = items_of (λ k. event_line_of k c) (λ k. k + 1) n lines

-- the record of these sizes
abbrev pub record_by : Config → List (List ℕ) → Result EventList LineFault
record_by c lines = do
  es ← events_of 1 c lines
  Ok (record { config = c; events = es })

-- the record that a text spells, or its first fault
abbrev pub record_of : List ℕ → Result EventList LineFault
record_of text = headed record_by (pieces_of text)
