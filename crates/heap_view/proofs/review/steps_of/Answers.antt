use Rattle.std.proofs.Common.{◌≡◌, ◌∙◌, ◌≤◌, ℕ, List, All, ap, length, map, subst, sym, take, arith}
use Rattle.std.proofs.lemmas.List.{take_all}
use Rattle.std.proofs.lemmas.List.Elements.{All-map, All-weaker}
use Rattle.heap_words.specs.declared.config.Config.{Config}
use Rattle.heap_steps.specs.Actors.{AreEvents, IsEvent, IsStep, IsStepOf}
use Rattle.heap_steps.specs.declared.step.Actor.{Actor}
use Rattle.heap_steps.specs.declared.step.Actor.TheVariants as actors
use Rattle.heap_steps.specs.declared.step.CollectorStep.TheVariants as collector
use Rattle.heap_steps.specs.declared.step.Event.{Event}
use Rattle.heap_steps.specs.declared.step.Step.{Step}
use Rattle.heap_steps.specs.declared.step.Step.TheVariants as steps
use Rattle.step_core.specs.Passages.{step_in}
use Rattle.heap_view.proofs.review.steps_of.Goals as goal

is_step : (config : Config) (actor : Actor) (step : Step) → IsStepOf config actor step → IsStep config step
is_step config (actors.Mutator m) (steps.Mutator o) h = h.1
is_step config actors.Collector (steps.Collector k) h = h
is_step config (actors.Marker i) (steps.Collector (collector.Mark k)) h = tt
is_step config (actors.Refiner i) (steps.Collector (collector.Refine k)) h = tt
is_step config _ _ h = absurd h

are_steps : (config : Config) (events : List Event) → AreEvents config events → All (IsStep config) (map step_in events)
are_steps config events known =
    All-map (IsStep config) step_in events
    (All-weaker (IsEvent config) (λ (e : Event). IsStep config (step_in e)) (λ e h. is_step config e.actor e.step h) events known)

-- the steps of all events, where the loop is at their end
all_steps : (items : List Step) (events : List Event) (i : ℕ) → items ≡ map step_in (take i events) → length events ≤ i
    → items ≡ map step_in events
all_steps items events i is past = is ∙ ap (λ (es : List Event). map step_in es) (take_all i events past)

pub returns-clause-known : goal.returns-clause-known
returns-clause-known c = λ config known.
    let items = all_steps c.loop-event.steps.items c.args.events.now c.loop-event.event-index c.loop-event.invariant
    (let done = c.loop-event-test.false in omega arith) in
    subst (λ (ss : List Step). All (IsStep config) ss) (sym items) (are_steps config c.args.events.now known)
