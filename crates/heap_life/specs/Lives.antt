-- The moments of a run.
use Rattle.std.specs.Prelude.{◌≡◌, ℕ, suc, ◌+◌, ◌≤◌, Bool, true, false, min, All, List, [], ◌∷◌, ◌++◌, Some, length, map, take}
use Rattle.heap_steps.specs.declared.step.Event.{Event}
use Rattle.heap_steps.specs.declared.step.Reply.{Reply}
use Rattle.heap_steps.specs.declared.step.Reply.TheVariants.{Moved}
use Rattle.heap_steps.specs.Actors.{EventList}
use Rattle.graph_runs.specs.State.{State, first_state}
use Rattle.graph_runs.specs.Run.{IsRun}
use Rattle.step_core.specs.Stands.{CoreState, Stands}
use Rattle.step_core.specs.Passages.{Runs, RunsTo, step_in, actor_in}
use Rattle.heap_dump.specs.Numbers.{IsNumbersOf}
use Rattle.heap_life.specs.Paces.{IsPaceFor, moments_below, most_moments}
use Rattle.heap_life.specs.Tolds.{Told, nothing_told, tells_tiles, told_of}
use Rattle.heap_life.specs.Tellers.{HasTold, TellsMoment}
use Rattle.heap_life.specs.declared.moment_text.Teller.{Teller}
use Rattle.heap_life.specs.declared.pace.Pace.{Pace}
use Rattle.heap_life.specs.declared.life.Moment.{Moment}
use Rattle.heap_life.specs.declared.life.Life.{Life}

-- how many words a reply says were copied
abbrev pub moved_by : Reply → ℕ
moved_by (Moved regions words) = words
moved_by _ = 0

-- how many words the pauses among some events copied
abbrev pub moved_in : List Event → ℕ
moved_in [] = 0
moved_in (e ∷ es) = moved_by e.reply + moved_in es

-- A core after the moment's events, to which these lead: the moment's numbers are its own. What was copied is what the replies say, as far
-- as it fits 64 bits
pub record IsMomentIn (Leads : List Event → CoreState → Type 0) (es : List Event) (m : Moment) (core : CoreState) : Type 0 where
  pub within : m.event ≤ length es
  pub leads : Leads (take m.event es) core
  pub numbers : IsNumbersOf core m.numbers
  pub copied : m.copied ≡ min (moved_in (take m.event es)) 18446744073709551615

-- events lead from a first core to core c
abbrev pub LeadsFrom : CoreState → List Event → CoreState → Type 0
LeadsFrom first es c = (s : State) → Stands s first → Runs s first es c

-- a moment with so many events and copied words, and with the core's numbers, was added at the end and told where one is due, and otherwise
-- none
abbrev pub NotesTold : Bool → CoreState → ℕ → ℕ → List Moment → List Moment → Teller → Teller → Type 0
NotesTold true c event copied old new x y = (m : Moment) × (new ≡ old ++ m ∷ []) × (m.event ≡ event) × (m.copied ≡ copied)
    × IsNumbersOf c m.numbers × TellsMoment c m x y
NotesTold false c event copied old new x y = (new ≡ old) × (y ≡ x)

abbrev pub moment_in : Moment × CoreState → Moment
moment_in shown = shown.0

abbrev pub event_in : Moment → ℕ
event_in m = m.event

-- the teller has told the moments, each of the core to which its events lead
pub record IsToldOf (most : ℕ) (t : Told) (first : CoreState) (es : List Event) (ms : List Moment) (x : Teller) : Type 0 where
  pub shown : List (Moment × CoreState)
  pub moments : ms ≡ map moment_in shown
  pub each : All (λ k. IsMomentIn (LeadsFrom first) es k.0 k.1) shown
  pub told : HasTold (told_of most t shown) x
  pub limit : x.most ≡ most

-- The steps of some events were done from a first core on, which led to core c: the history has them with their replies, and the moments
-- are exactly those that the pace wants, in rising order, and are told in that order
pub record IsLived (most : ℕ) (t : Told) (first : CoreState) (p : Pace) (events : List Event) (c : CoreState) (history : EventList)
    (ms : List Moment) (x : Teller) : Type 0 where
  pub config : history.config ≡ first.config
  pub steps : map step_in history.events ≡ map step_in events
  pub actors : map actor_in history.events ≡ map actor_in events
  pub leads : LeadsFrom first history.events c
  pub due : map event_in ms ≡ moments_below p events (suc (length events))
  pub told : IsToldOf most t first history.events ms x

-- the same of a life: what it tells is what a teller has told of its moments that had told nothing before
pub record IsLifeFrom (first : CoreState) (p : Pace) (events : List Event) (c : CoreState) (life : Life) : Type 0 where
  pub teller : Teller
  pub lived : IsLived 8000000 (nothing_told (tells_tiles first.config)) first p events c life.history life.moments.items teller
  pub told : teller.text ≡ Some life.told.items

-- A life of a new heap over the steps of some events: its record is a run of the graph with these steps and actors, the pace is for these
-- events, there is a moment wherever the pace wants one and nowhere else, in rising order, each is one of the run, and what is told is the
-- text of the moments, each of the core to which its events lead
pub record IsLifeOf (every : ℕ) (events : EventList) (life : Life) : Type 0 where
  pub config : life.history.config ≡ events.config
  pub steps : map step_in life.history.events ≡ map step_in events.events
  pub actors : map actor_in life.history.events ≡ map actor_in events.events
  pub last : State
  pub run : IsRun (first_state events.config) life.history.events last
  pub end : CoreState
  pub ends : RunsTo events.config life.history.events end
  pub pace : IsPaceFor every (most_moments events.config) events.events life.pace
  pub due : map event_in life.moments.items ≡ moments_below life.pace events.events (suc (length events.events))
  pub shown : List (Moment × CoreState)
  pub moments : life.moments.items ≡ map moment_in shown
  pub each : All (λ k. IsMomentIn (RunsTo events.config) life.history.events k.0 k.1) shown
  pub told : life.told.items ≡ (told_of 8000000 (nothing_told (tells_tiles events.config)) shown).text
