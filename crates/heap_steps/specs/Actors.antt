-- Plans and records, and whose a step is.
use Rattle.std.specs.Prelude.{◌≡◌, ◌<◌, ℕ, List, All, Bool, true, false, ◌&&◌}
use Rattle.heap_words.specs.declared.config.Config.{Config}
use Rattle.heap_words.specs.declared.config.Format.{Format}
use Rattle.heap_words.specs.declared.config.Format.TheVariants.{V3}
use Rattle.root_table.specs.Roots.{root_counts_of}
use Rattle.heap_steps.specs.declared.form.Operand.{Operand}
use Rattle.heap_steps.specs.Forms.{action_row, action_verb, collection_row, collection_verb}
use Rattle.heap_steps.specs.Roots.{IsOpAt, is_there, names_roots}
use Rattle.heap_steps.specs.declared.step.Action.{Action}
use Rattle.heap_steps.specs.declared.step.Op.{Op}
use Rattle.heap_steps.specs.declared.step.Actor.{Actor}
use Rattle.heap_steps.specs.declared.step.Actor.TheVariants as actors
use Rattle.heap_steps.specs.declared.step.CollectorStep.{CollectorStep}
use Rattle.heap_steps.specs.declared.step.CollectorStep.TheVariants as collector
use Rattle.heap_steps.specs.declared.step.Step.{Step}
use Rattle.heap_steps.specs.declared.step.Step.TheVariants as steps
use Rattle.heap_steps.specs.declared.step.Event.{Event}

-- what a plan holds
pub record StepList : Type 0 where
  pub config : Config
  pub steps : List Step

-- what a record holds
pub record EventList : Type 0 where
  pub config : Config
  pub events : List Event

-- the step of an event
abbrev pub step_in : Event → Step
step_in e = e.step

-- the third format, which alone has frames of registers, which a scope leaves, and compactions
abbrev pub IsThird : Format → Type 0
IsThird (V3 card globals registers) = Unit {0}
IsThird _ = ⊥

-- the format has what the third alone has, or every format
abbrev pub HasRow : Format → Bool → Type 0
HasRow f true = IsThird f
HasRow f false = Unit {0}

-- the format has the action, or the collector's step
abbrev pub HasAction : Format → Action → Type 0
HasAction f a = HasRow f (action_row (action_verb a)).third

abbrev pub HasCollection : Format → CollectorStep → Type 0
HasCollection f k = HasRow f (collection_row (collection_verb k)).third

-- the same as tests
abbrev pub is_third : Format → Bool
is_third (V3 card globals registers) = true
is_third _ = false

abbrev pub has_row : Format → Bool → Bool
has_row f true = is_third f
has_row f false = true

abbrev pub has_action : Format → Action → Bool
has_action f a = has_row f (action_row (action_verb a)).third

-- whether a heap of these sizes has the root of an operand's number, if it names one
abbrev pub has_root : Config → Operand → ℕ → Bool
has_root c k n = is_there (root_counts_of c) k n

-- whether a heap of these sizes has each root that the action names, and their format the action
abbrev pub allows : Config → Action → Bool
allows c a = names_roots (root_counts_of c) a && has_action c.format a

-- a mutator's step in a heap of these sizes: there are its mutator and each root that it names, and the format has it
pub record IsOp (c : Config) (o : Op) : Type 0 where
  pub at : IsOpAt (root_counts_of c) o
  pub known : HasAction c.format o.action

-- a step of a plan: such a one of a mutator, or one of the collector's that the format has
abbrev pub IsStep : Config → Step → Type 0
IsStep c (steps.Mutator o) = IsOp c o
IsStep c (steps.Collector k) = HasCollection c.format k

-- each is a step of a plan
abbrev pub AreSteps : Config → List Step → Type 0
AreSteps c ss = All (IsStep c) ss

-- a step of the actor: a mutator takes its own, the collector any of the collector's that the format has, a background marker
-- marks, a background refiner refines
abbrev pub IsStepOf : Config → Actor → Step → Type 0
IsStepOf c (actors.Mutator m) (steps.Mutator o) = (o.mutator ≡ m) × IsOp c o
IsStepOf c actors.Collector (steps.Collector k) = HasCollection c.format k
IsStepOf c (actors.Marker i) (steps.Collector (collector.Mark k)) = i < 8
IsStepOf c (actors.Refiner i) (steps.Collector (collector.Refine k)) = i < 8
IsStepOf c _ _ = ⊥

-- the event's step is one of its actor's
abbrev pub IsEvent : Config → Event → Type 0
IsEvent c e = IsStepOf c e.actor e.step

-- each is such an event
abbrev pub AreEvents : Config → List Event → Type 0
AreEvents c es = All (IsEvent c) es
