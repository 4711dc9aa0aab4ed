-- What making an object does to a core.
use Rattle.std.specs.Prelude.{◌≡◌, ◌≢◌, ◌⊎◌, ◌<◌, ◌≤◌, ◌*◌, ℕ, ⊤, Option, Some, Result, IfOk, length}
use Rattle.heap_words.specs.Configs.{max_object_words}
use Rattle.heap_words.specs.Sizes.{size_of}
use Rattle.heap_model.specs.Graph.{Graph}
use Rattle.regions.specs.Table.{Table, pointers_at, weaks_at, values_at}
use Rattle.alloc_buffers.specs.Placement.{Buffers, CanAllocate}
use Rattle.step_core.specs.Steps.{Action, Counts, Refusal, Register, Reply, Step}
use Rattle.heap_steps.specs.declared.step.Action.TheVariants as actions
use Rattle.heap_steps.specs.declared.step.Reply.TheVariants as replies
use Rattle.heap_steps.specs.declared.step.Step.TheVariants as steps
use Rattle.step_core.specs.Answers.{Acts, HasNoPlace, IsWithin, RepliesFull, new_reply}
use Rattle.step_core.specs.Cycle.{LeavesRegions}
use Rattle.step_core.specs.Mutators.{ActsOn, register_of}
use Rattle.step_core.specs.Stands.{CoreState, ShowsGraph, KeepsFrom}
use Rattle.step_core.specs.declared.mutator.NewObject.{NewObject}

-- mutator m's register names an object of so many pointers, weak slots and data words
pub record NamesObject (c : CoreState) (m : ℕ) (to : Register) (p w d : ℕ) : Type 0 where
  pub at : ℕ
  pub held : register_of c m to ≡ Some at
  pub pointers : length (pointers_at c.table at) ≡ p
  pub weaks : length (weaks_at c.table at) ≡ w
  pub values : length (values_at c.table at) ≡ d

-- where an action made an object, and so replied a name, the register names one of so many pointers, weak slots and data words
abbrev pub HasMade : ℕ → Action → Reply → CoreState → Type 0
HasMade m (actions.New to counts) (replies.Named name) c = NamesObject c m to counts.pointers 0 counts.values
HasMade m (actions.NewWeak to counts weaks) (replies.Named name) c = NamesObject c m to counts.pointers weaks counts.values
HasMade m _ _ c = ⊤

-- the same of a step: the collector makes no object
abbrev pub HasMadeStep : Step → Reply → CoreState → Type 0
HasMadeStep (steps.Mutator o) reply c = HasMade o.mutator o.action reply c
HasMadeStep (steps.Collector k) reply c = ⊤

-- Mutator m asks for an object with so many weak slots: the reply is the graph's, or Full, a snapshot is kept, and the core is what the
-- step makes of it. There is a name only where there is a place, and only for what is no larger than an object may be; then the register
-- names the object
pub record MakesObject (m : ℕ) (to : Register) (counts : Counts) (weaks : ℕ) (reply : Reply) (c c' : CoreState) : Type 0 where
  pub acts : (g : Graph) → ShowsGraph g c → Acts g m (actions.NewWeak to counts weaks) reply c'
      ⊎ RepliesFull g m (actions.NewWeak to counts weaks) c reply c'
  pub keeps : (s : Graph) → KeepsFrom s c → KeepsFrom s c'
  pub after : ActsOn m (actions.NewWeak to counts weaks) reply c c'
  pub leaves : LeavesRegions c c'
  pub full : HasNoPlace c m (size_of counts.pointers weaks counts.values) → (name : Option ℕ) → reply ≢ replies.Named name
  pub within : IsWithin c.config (actions.NewWeak to counts weaks) reply
  pub made : HasMade m (actions.NewWeak to counts weaks) reply c'

-- and where an object was made, the register holds its address
pub record MakesNew (m : ℕ) (to : Register) (counts : Counts) (weaks : ℕ) (made : Result NewObject Refusal)
    (c c' : CoreState) : Type 0 where
  pub makes : MakesObject m to counts weaks (new_reply made) c c'
  pub at : IfOk made (λ x. register_of c' m to ≡ Some x.at)

-- an object of so many words, which its counts come to, can be placed for a mutator
pub record CanMake (t : Table) (b : Buffers) (m words : ℕ) (counts : Counts) (weaks : ℕ) : Type 0 where
  pub mutator : m < length b.open_buffers
  pub within : words ≤ length t.regions * t.words_per_region
  pub small : words ≤ max_object_words
  pub ready : CanAllocate t b words
  pub size : words ≡ size_of counts.pointers weaks counts.values
