-- Whose step is whose: scripts, and the steps of an actor's events.
use Rattle.std.specs.Prelude.{◌≡◌, ℕ, ◌<◌, ◌==◌, Bool, true, false, List, [], ◌∷◌, All, if◌then◌else◌}
use Rattle.heap_words.specs.declared.config.Config.{Config}
use Rattle.heap_steps.specs.Actors.{IsStepOf}
use Rattle.step_core.specs.Steps.{Actor, Event, Step}
use Rattle.heap_steps.specs.declared.step.Actor.TheVariants.{Mutator, Collector, Marker, Refiner}
use Rattle.heap_steps.specs.declared.step.CollectorStep.TheVariants as collector
use Rattle.heap_steps.specs.declared.step.Step.TheVariants as steps
use Rattle.step_core.specs.Passages.{actor_of}

abbrev pub same_actor : Actor → Actor → Bool
same_actor (Mutator i) (Mutator j) = i == j
same_actor Collector Collector = true
same_actor (Marker i) (Marker j) = i == j
same_actor (Refiner i) (Refiner j) = i == j
same_actor _ _ = false

-- the others work in the background
abbrev pub is_scripted : Actor → Bool
is_scripted (Mutator i) = true
is_scripted Collector = true
is_scripted (Marker i) = false
is_scripted (Refiner i) = false

-- the scripted actor at a place: mutators by number, then the collector
abbrev pub scripted : ℕ → ℕ → Actor
scripted m k = if k == m then Collector else Mutator k

-- an actor's script: its steps among those of a plan, in their order
abbrev pub lines_of : Actor → List Step → List Step
lines_of a [] = []
lines_of a (s ∷ ss) = if same_actor a (actor_of s) then (s ∷ lines_of a ss) else lines_of a ss

-- the steps of an actor's events, in order
abbrev pub steps_of : Actor → List Event → List Step
steps_of a [] = []
steps_of a (e ∷ es) = if same_actor a e.actor then (e.step ∷ steps_of a es) else steps_of a es

-- what a background actor does in each turn
abbrev pub mark_4 : Step
mark_4 = steps.Collector (collector.Mark 4)

abbrev pub refine_2 : Step
refine_2 = steps.Collector (collector.Refine 2)

-- the step is one of the actor's: a background marker marks 4, a background refiner refines 2
abbrev pub IsOwn : Config → Actor → Step → Type 0
IsOwn c (Mutator i) s = IsStepOf c (Mutator i) s
IsOwn c Collector s = IsStepOf c Collector s
IsOwn c (Marker i) s = (i < 8) × (s ≡ mark_4)
IsOwn c (Refiner i) s = (i < 8) × (s ≡ refine_2)

abbrev pub AreOwn : Config → List Event → Type 0
AreOwn c es = All (λ (e : Event). IsOwn c e.actor e.step) es
