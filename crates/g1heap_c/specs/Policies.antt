-- What a call of the policy does to a heap: nothing, where there is none, or a core.
use Rattle.std.specs.Prelude.{◌≡◌, ◌+◌, ◌-◌, ◌*◌, ◌≤◌, ◌==◌, ℕ, ⊤, Bool, Option, Some, None, if◌then◌else◌, min, replicate}
use Rattle.heap_words.specs.declared.config.Config.{Config}
use Rattle.regions.specs.Table.{free_count}
use Rattle.heap_steps.specs.Actors.{IsOp, IsThird}
use Rattle.heap_steps.specs.declared.step.Action.TheVariants as actions
use Rattle.heap_steps.specs.declared.step.Event.{Event}
use Rattle.heap_steps.specs.declared.step.Op.{Op}
use Rattle.heap_steps.specs.declared.step.Step.{Step}
use Rattle.heap_steps.specs.declared.step.Reply.{Reply}
use Rattle.heap_steps.specs.declared.step.Reply.TheVariants as replies
use Rattle.heap_steps.specs.declared.step.Refusal.TheVariants as refusals
use Rattle.graph_runs.specs.State.{State}
use Rattle.step_core.specs.Stands.{CoreState, Stands}
use Rattle.collection.specs.Space.{IsCollected, IsCompact, IsPacked}
use Rattle.collection.specs.Steps.{CollectsWithin, CollectsSome, IsDue, LeavesTwo, Makes}
use Rattle.collection.specs.Numbers.{IsStarted}
use Rattle.collection.specs.Rooms.{IsFilled}
use Rattle.heap_calls.specs.Filled.{StepsTo}
use Rattle.heap_calls.specs.Numbers.{by, counts, no_heap, no_step, numbers, register, told}
use Rattle.heap_calls.specs.Steps.{StaysSame, given_back}
use Rattle.heap_calls.specs.declared.answer.Answer.{Answer}
use Rattle.g1heap_c.specs.declared.caller.CallerPolicy.{CallerPolicy}

-- a policy that begins: a refused object leaves its register as it is, and no number of a later version is set
pub record Starts (config : Config) (p : CallerPolicy) : Type 0 where
  pub numbers : IsStarted config p.numbers
  pub keeps : p.nil_on_full ≡ 0
  pub reserved : p.reserved ≡ replicate 11 0

-- the step that makes an object, a plain one where it has no weak slots
abbrev pub asked : ℕ → ℕ → ℕ → ℕ → ℕ → Op
asked m to pointers weaks values = record {
  mutator = m;
  action = if weaks == 0 then actions.New (register to) (counts pointers values)
      else actions.NewWeak (register to) (counts pointers values) weaks;
}

abbrev nobody : Unit {0}
nobody = tt

-- steps of the collector, at least one, that nobody is said to watch
abbrev pub CollectsSomeIn : ℕ → CoreState → CoreState → Type 0
CollectsSomeIn most c c' = CollectsSome {W = Unit {0}} (λ x e y. Unit {0}) most c nobody c' nobody

-- an object is asked for, and the answer tells the reply: all that the policy promises, and a watch sees its steps. Then the heap is the
-- core after it
pub record AnswersMake {W : Type 0} (sees : W → Event → W → Type 0) (c : CoreState) (x : W) (op : Op) (answer : Answer)
    (after : Option CoreState) (x' : W) : Type 0 where
  pub reply : Reply
  pub core : CoreState
  pub tells : answer ≡ numbers reply
  pub held : after ≡ Some core
  pub makes : Makes sees (5 * c.config.regions + 12) op reply c x core x'
  pub full : reply ≡ replies.Refused refusals.Full → (s : State) → Stands s c → IsFilled s.graph c op.action core
  pub two : LeavesTwo c.config op.action → 2 ≤ free_count c.table → 2 ≤ free_count core.table

-- so many steps make the register nil that was to take an object: one where it was refused as Full and a policy's number is set, else none
abbrev pub nil_steps : ℕ → Reply → ℕ
nil_steps number (replies.Refused refusals.Full) = min number 1
nil_steps number _ = 0

-- each makes a mutator's register nil
abbrev pub nilling : ℕ → ℕ → ℕ → Step
nilling m to i = by m (actions.Drop (register to))

-- an object is asked for, and where it is refused as Full and the number is set, a step more makes the register nil that was to take it
pub record AsksOrNils {W : Type 0} (sees : W → Event → W → Type 0) (number to : ℕ) (c : CoreState) (x : W) (op : Op) (answer : Answer)
    (after : Option CoreState) (x' : W) : Type 0 where
  pub made : CoreState
  pub asks : AnswersMake sees c x op answer (Some made) x'
  pub last : CoreState
  pub nils : StepsTo made (nilling op.mutator to) (nil_steps number asks.reply) last
  pub held : after ≡ Some last

-- if the heap's sizes have the step; else it is as it was, and the watch sees nothing
pub record AsksOrNot {W : Type 0} (sees : W → Event → W → Type 0) (number to : ℕ) (c : CoreState) (x : W) (op : Op) (answer : Answer)
    (after : Option CoreState) (x' : W) : Type 0 where
  pub asks : IsOp c.config op → AsksOrNils sees number to c x op answer after x'
  pub not : (IsOp c.config op → ⊥) → StaysSame (Some c) no_step answer after × (x' ≡ x)

abbrev pub AsksFor : {W : Type 0} (sees : W → Event → W → Type 0) → ℕ → ℕ → Option CoreState → W → Op → Answer → Option CoreState → W
    → Type 0
AsksFor sees number to None x op answer after x' = StaysSame None no_heap answer after × (x' ≡ x)
AsksFor sees number to (Some c) x op answer after x' = AsksOrNot sees number to c x op answer after x'

-- the steps that are due
pub record CollectsDueIn {W : Type 0} (sees : W → Event → W → Type 0) (c : CoreState) (x : W) (answer : Answer) (after : Option CoreState)
    (x' : W) : Type 0 where
  pub core : CoreState
  pub tells : answer ≡ told 0 0 0
  pub held : after ≡ Some core
  pub collects : CollectsWithin sees (c.config.regions + 5) c x core x'

abbrev pub CollectsDue : {W : Type 0} (sees : W → Event → W → Type 0) → Option CoreState → W → Answer → Option CoreState → W → Type 0
CollectsDue sees None x answer after x' = StaysSame None no_heap answer after × (x' ≡ x)
CollectsDue sees (Some c) x answer after x' = CollectsDueIn sees c x answer after x'

-- if a step is due, by the number of free regions at which a cycle begins, at least one is taken
abbrev pub TakesDue : Option CoreState → ℕ → Option CoreState → Type 0
TakesDue None begin_at after = ⊤
TakesDue (Some c) begin_at after =
    IsDue c begin_at → (core : CoreState) × (after ≡ Some core) × CollectsSomeIn (c.config.regions + 5) c core

-- a whole collection: what is kept is reachable then, and fills more than half of the ordinary regions
pub record CollectsAllIn {W : Type 0} (sees : W → Event → W → Type 0) (c : CoreState) (x : W) (answer : Answer) (after : Option CoreState)
    (x' : W) : Type 0 where
  pub core : CoreState
  pub tells : answer ≡ told 0 0 0
  pub held : after ≡ Some core
  pub collects : CollectsWithin sees (4 + (c.config.regions - free_count c.table)) c x core x'
  pub collected : (s : State) → Stands s c → IsCollected s.graph core
  pub packed : (s : State) → Stands s c → 2 ≤ free_count c.table → IsPacked s.graph core

abbrev pub CollectsAll : {W : Type 0} (sees : W → Event → W → Type 0) → Option CoreState → W → Answer → Option CoreState → W → Type 0
CollectsAll sees None x answer after x' = StaysSame None no_heap answer after × (x' ≡ x)
CollectsAll sees (Some c) x answer after x' = CollectsAllIn sees c x answer after x'

-- The same, and more pauses and compactions after it: no region in use is above a free one then, if two were free and the format has
-- compactions. Memory goes back, if what that asks for meanwhile is granted
pub record ShrinksIn {W : Type 0} (sees : W → Event → W → Type 0) (granted : Bool) (c : CoreState) (x : W) (answer : Answer)
    (after : Option CoreState) (x' : W) : Type 0 where
  pub core : CoreState
  pub tells : answer ≡ given_back granted
  pub held : after ≡ Some core
  pub collects : CollectsWithin sees (13 + 4 * c.config.regions) c x core x'
  pub collected : (s : State) → Stands s c → IsCollected s.graph core
  pub packed : (s : State) → Stands s c → 2 ≤ free_count c.table → IsPacked s.graph core
  pub compact : IsThird c.config.format → 2 ≤ free_count c.table → (s : State) → Stands s c → IsCompact core.table

abbrev pub Shrinks : {W : Type 0} (sees : W → Event → W → Type 0) → Bool → Option CoreState → W → Answer → Option CoreState → W → Type 0
Shrinks sees granted None x answer after x' = StaysSame None no_heap answer after × (x' ≡ x)
Shrinks sees granted (Some c) x answer after x' = ShrinksIn sees granted c x answer after x'
