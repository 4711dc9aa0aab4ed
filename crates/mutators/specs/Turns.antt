-- What a turn does.
use Rattle.std.specs.Prelude.{◌≡◌, ◌+◌, ◌<◌, ◌==◌, ◌∷◌, ◌++◌, if◌then◌else◌}
use Rattle.std.specs.Prelude.{ℕ, true, false, [], List, Option, Some, None, length, slice_index, slice_get, slice_set}
use Rattle.step_core.specs.Steps.{Actor, Reply, Step}
use Rattle.heap_steps.specs.declared.step.Actor.TheVariants.{Mutator, Collector, Marker, Refiner}
use Rattle.step_core.specs.Cycle.{Does}
use Rattle.mutators.specs.declared.journal.Turn.{Turn}
use Rattle.mutators.specs.declared.journal.Turn.TheVariants.{Done, Idle, End}
use Rattle.mutators.specs.Scripts.{is_scripted, mark_4, refine_2}
use Rattle.mutators.specs.Journals.{JournalState, mutators_of, script_at, event_of}

-- the next line of the scripted actor at a place
abbrev pub next_at : JournalState → ℕ → Option Step
next_at j k = slice_get (script_at j k) (slice_index j.places k)

-- the step that an actor would take now: the next line of its script; a marker marks while marking runs, a refiner refines where
-- cards are queued
abbrev pub next_step : JournalState → Actor → Option Step
next_step j (Mutator i) = next_at j i
next_step j Collector = next_at j (mutators_of j)
next_step j (Marker i) = if j.core.marker.running then Some mark_4 else None
next_step j (Refiner i) = if length j.core.cards.queue == 0 then None else Some refine_2

-- the places after a turn
abbrev pub moved : JournalState → Actor → List ℕ
moved j (Mutator i) = slice_set j.places i (slice_index j.places i + 1)
moved j Collector = slice_set j.places (mutators_of j) (slice_index j.places (mutators_of j) + 1)
moved j (Marker i) = j.places
moved j (Refiner i) = j.places

-- the configuration and the scripts stay
abbrev pub SamePlan : JournalState → JournalState → Type 0
SamePlan j j' = (j'.core.config ≡ j.core.config) × (j'.scripts ≡ j.scripts)

-- the actor's next step was done in the core, and it is one event more
pub record TakesTurn (j j' : JournalState) (a : Actor) : Type 0 where
  pub step : Step
  pub reply : Reply
  pub next : next_step j a ≡ Some step
  pub does : Does step reply j.core j'.core
  pub event : j'.events ≡ j.events ++ event_of a step reply ∷ []
  pub place : j'.places ≡ moved j a

-- an actor that has nothing to do changes nothing: a scripted one is at its end, one in the background is idle
abbrev pub TurnIs : Turn → JournalState → JournalState → Actor → Type 0
TurnIs Done j j' a = TakesTurn j j' a
TurnIs Idle j j' a = (is_scripted a ≡ false) × (next_step j a ≡ None) × (j' ≡ j)
TurnIs End j j' a = (is_scripted a ≡ true) × (next_step j a ≡ None) × (j' ≡ j)

-- the actor is one of a heap with so many mutators
abbrev pub IsCast : ℕ → Actor → Type 0
IsCast m (Mutator i) = i < m
IsCast m Collector = Unit {0}
IsCast m (Marker i) = i < 8
IsCast m (Refiner i) = i < 8

-- how many steps a turn did
abbrev pub steps_done : Turn → ℕ
steps_done Done = 1
steps_done Idle = 0
steps_done End = 0
