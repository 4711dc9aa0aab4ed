-- The events of a journal are those of a record.
use Rattle.std.proofs.Common.{List, sym, subst}
use Rattle.heap_words.specs.declared.config.Config.{Config}
use Rattle.heap_steps.specs.Actors.{AreEvents, IsStepOf}
use Rattle.step_core.specs.Steps.{Actor, Event, Step}
use Rattle.heap_steps.specs.declared.step.Actor.TheVariants.{Mutator, Collector, Marker, Refiner}
use Rattle.mutators.specs.Scripts.{IsOwn, AreOwn}

own_is : (c : Config) (a : Actor) (s : Step) → IsOwn c a s → IsStepOf c a s
own_is c (Mutator i) s own = own
own_is c Collector s own = own
own_is c (Marker i) s own = subst (λ (x : Step). IsStepOf c (Marker i) x) (sym own.1) own.0
own_is c (Refiner i) s own = subst (λ (x : Step). IsStepOf c (Refiner i) x) (sym own.1) own.0

pub own_events : (c : Config) (es : List Event) → AreOwn c es → AreEvents c es
own_events c es own k d within = own_is c _ _ (own k d within)
