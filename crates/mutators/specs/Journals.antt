-- What a journal shows, and what every journal keeps.
use Rattle.std.specs.Prelude.{◌≡◌, ℕ, ◌+◌, ◌≤◌, List, [], length, take, slice_index, slice_index_or, All}
use Rattle.heap_words.specs.declared.config.Config.{Config}
use Rattle.heap_steps.specs.Actors.{IsStep}
use Rattle.step_core.specs.Steps.{Actor, Event, Reply, Step}
use Rattle.step_core.specs.Stands.{CoreState}
use Rattle.step_core.specs.Passages.{RunsTo, actor_of}
use Rattle.mutators.specs.Scripts.{scripted, steps_of, AreOwn}

-- the heap, each scripted actor's lines, how many of them are done, and the events
pub record JournalState : Type 0 where
  pub core : CoreState
  pub scripts : List (List Step)
  pub places : List ℕ
  pub events : List Event

abbrev pub event_of : Actor → Step → Reply → Event
event_of a s r = record { actor = a; step = s; reply = r }

abbrev pub mutators_of : JournalState → ℕ
mutators_of j = j.core.config.mutators

-- the lines of the scripted actor at a place
abbrev pub script_at : JournalState → ℕ → List Step
script_at j k = slice_index_or j.scripts k []

-- a line of the scripted actor at a place
abbrev pub IsScriptLine : Config → ℕ → Step → Type 0
IsScriptLine config k s = IsStep config s × (actor_of s ≡ scripted config.mutators k)

-- a beginning of an interleaving of the scripts: the steps of each scripted actor's events are the first lines of its
-- script, as many as its place says
abbrev pub IsBeginning : ℕ → List (List Step) → List ℕ → List Event → Type 0
IsBeginning m scripts places events =
    (k : ℕ) → k ≤ m → (steps_of (scripted m k) events ≡ take (slice_index places k) (slice_index_or scripts k []))
    × (slice_index places k ≤ length (slice_index_or scripts k []))

-- What every journal keeps: its core is where its events lead a new heap, and they are a beginning of an interleaving of its
-- scripts
pub record Keeps (j : JournalState) : Type 0 where
  pub runs : RunsTo j.core.config j.events j.core
  pub begins : IsBeginning (mutators_of j) j.scripts j.places j.events
  pub own : AreOwn j.core.config j.events
  pub each_script : length j.scripts ≡ mutators_of j + 1
  pub each_place : length j.places ≡ mutators_of j + 1
  pub lines : (k : ℕ) → k ≤ mutators_of j → All (IsScriptLine j.core.config k) (script_at j k)
  pub few : mutators_of j ≤ 64
