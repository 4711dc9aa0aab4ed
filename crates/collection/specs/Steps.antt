-- What a policy does: steps of the collector, and a mutator's own after them.
use Rattle.std.specs.Prelude.{◌≡◌, ◌≢◌, ◌⊎◌, ◌+◌, ◌*◌, ◌<◌, ◌≤◌, ◌∷◌, [], ℕ, All, List, None, length, if◌then◌else◌, nat_le, true}
use Rattle.heap_words.specs.declared.config.Config.{Config}
use Rattle.heap_words.specs.Sizes.{size_of}
use Rattle.regions.specs.Table.{free_count}
use Rattle.alloc_buffers.specs.Placement.{allocation_of, run_count}
use Rattle.step_core.specs.Steps.{Action, CollectorStep, Event, Op, Reply}
use Rattle.heap_steps.specs.declared.step.Action.TheVariants as actions
use Rattle.heap_steps.specs.declared.step.Actor.TheVariants as actors
use Rattle.heap_steps.specs.declared.step.Reply.TheVariants as replies
use Rattle.heap_steps.specs.declared.step.Refusal.TheVariants as refusals
use Rattle.heap_steps.specs.declared.step.Step.TheVariants as steps
use Rattle.graph_runs.specs.State.{State}
use Rattle.graph_runs.specs.Run.{Creates, IsNew}
use Rattle.heap_steps.specs.Actors.{IsOp}
use Rattle.step_core.specs.Stands.{CoreState, Stands}
use Rattle.step_core.specs.Mutators.{core_after}
use Rattle.step_core.specs.Passages.{Passes, Runs}

-- ---- objects that are asked for
-- how many words the object has that an action makes, 0 for one that makes none
abbrev pub asked_words : Action → ℕ
asked_words (actions.New to counts) = size_of counts.pointers 0 counts.values
asked_words (actions.NewWeak to counts weaks) = size_of counts.pointers weaks counts.values
asked_words _ = 0

-- an object of so many words is asked for in a heap of these sizes
pub record AsksFor (config : Config) (o : Op) (words : ℕ) : Type 0 where
  pub op : IsOp config o
  pub new : IsNew o.action
  pub size : words ≡ asked_words o.action

-- and all regions together have as many
pub record AsksWithin (config : Config) (o : Op) (words : ℕ) : Type 0 where
  pub op : IsOp config o
  pub new : IsNew o.action
  pub size : words ≡ asked_words o.action
  pub within : words ≤ config.regions * config.words

-- how many regions of so many words an object takes: one, of which others may have a part, or a run
abbrev pub regions_for : ℕ → ℕ → ℕ
regions_for words size = if nat_le (2 * size) words then 1 else run_count words size

-- a heap has so many regions that two are left beside those that the object takes
abbrev pub LeavesTwo : Config → Action → Type 0
LeavesTwo config a = regions_for config.words (asked_words a) + 2 < config.regions

-- the object has a place, and two regions are free once it is made there
pub record FitsLeavingTwo (c : CoreState) (op : Op) : Type 0 where
  pub place : allocation_of c.table c.buffers op.mutator (asked_words op.action) ≢ None
  pub two : 2 ≤ free_count (core_after c op.mutator op.action).table

-- ---- steps, and who watches them
-- a watch saw the events one after another, by what seeing one does to it
abbrev pub Sees : {W : Type 0} → (W → Event → W → Type 0) → W → List Event → W → Type 0
Sees sees x [] y = y ≡ x
Sees {W} sees x (e ∷ es) y = (z : W) × sees x e z × Sees sees z es y

-- the collector took a step
pub record IsCollectors (e : Event) : Type 0 where
  pub step : CollectorStep
  pub is : e.step ≡ steps.Collector step
  pub actor : e.actor ≡ actors.Collector

-- The collector took steps, so many at most, and the watch saw them. From each state that the core stood for they lead on to one
-- that it stands for, through states and cores between. Where two regions were free, two are; the sizes stay, and no name is given
pub record CollectsWithin {W : Type 0} (sees : W → Event → W → Type 0) (most : ℕ) (c : CoreState) (x : W) (c' : CoreState) (x' : W)
    : Type 0 where
  pub events : List Event
  pub few : length events ≤ most
  pub collectors : All IsCollectors events
  pub seen : Sees sees x events x'
  pub runs : (s : State) → Stands s c → Runs s c events c'
  pub two : 2 ≤ free_count c.table → 2 ≤ free_count c'.table
  pub config : c'.config ≡ c.config
  pub next : c'.next ≡ c.next

-- at least one of these
pub record CollectsSome {W : Type 0} (sees : W → Event → W → Type 0) (most : ℕ) (c : CoreState) (x : W) (c' : CoreState) (x' : W)
    : Type 0 where
  pub collects : CollectsWithin sees most c x c' x'
  pub some : 0 < length collects.events

-- a step is due at a look: marking runs, or no more regions are free than where a cycle begins
abbrev pub IsDue : CoreState → ℕ → Type 0
IsDue c begin_at = (c.marker.running ≡ true) ⊎ (free_count c.table ≤ begin_at)

-- the event of a mutator's own step
abbrev pub own_event : Op → Reply → Event
own_event op reply = record { actor = actors.Mutator op.mutator; step = steps.Mutator op; reply = reply }

-- the mutator took its step, and the watch saw it
pub record TakesOwn {W : Type 0} (sees : W → Event → W → Type 0) (op : Op) (reply : Reply) (c : CoreState) (x : W) (c' : CoreState) (x' : W)
    : Type 0 where
  pub seen : sees x (own_event op reply) x'
  pub passes : (s : State) → Stands s c → Passes s c (own_event op reply) c'

-- no step was taken, though the graph creates the object: it is refused as Full, and nothing changes. The heap has regions enough to leave
-- two beside the object, and there is no room for it beside two free ones
pub record HoldsBack {W : Type 0} (op : Op) (reply : Reply) (c : CoreState) (x : W) (c' : CoreState) (x' : W) : Type 0 where
  pub reply_is : reply ≡ replies.Refused refusals.Full
  pub creates : (s : State) → Stands s c → Creates s.graph op
  pub core : c' ≡ c
  pub watch : x' ≡ x
  pub leaves : LeavesTwo c.config op.action
  pub no_room : FitsLeavingTwo c op → ⊥

-- The collector took steps, so many at most, and after them the mutator its own, or none
pub record Makes {W : Type 0} (sees : W → Event → W → Type 0) (most : ℕ) (op : Op) (reply : Reply)
    (c : CoreState) (x : W) (c' : CoreState) (x' : W) : Type 0 where
  pub core : CoreState
  pub watch : W
  pub collects : CollectsWithin sees most c x core watch
  pub own : TakesOwn sees op reply core watch c' x' ⊎ HoldsBack op reply core watch c' x'
