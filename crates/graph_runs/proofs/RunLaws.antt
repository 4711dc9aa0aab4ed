-- How a run goes on.
use Rattle.std.proofs.Common.{◌≡◌, ◌<◌, ◌∷◌, ◌++◌}
use Rattle.std.proofs.Common.{ℕ, zero, suc, arith, List, [], length, get_or, refl, subst}
use Rattle.graph_runs.specs.State.{State}
use Rattle.graph_runs.specs.Run.{EventHappens, IsRun}
use Rattle.heap_steps.specs.declared.step.Event.{Event}
use Rattle.heap_steps.specs.declared.step.Actor.TheVariants as actors
use Rattle.heap_steps.specs.declared.step.Action.TheVariants as actions
use Rattle.heap_steps.specs.declared.step.Step.TheVariants as steps
use Rattle.heap_steps.specs.declared.step.Reply.TheVariants as replies

-- a run goes on by one event
pub IsRun-more : (first : State) (es : List Event) (mid : State) (e : Event) (last : State) → IsRun first es mid → EventHappens mid e last
    → IsRun first (es ++ e ∷ []) last
IsRun-more first [] mid e last run next = (last, subst (λ (g : State). EventHappens g e last) run next, refl)
IsRun-more first (x ∷ es) mid e last run next = (run.0, run.1, IsRun-more run.0 es mid e last run.2 next)

-- an event of a slice, as the code reads it
abbrev pub event_in : List Event → ℕ → Event
event_in es i = get_or es i (record {
  actor = actors.Mutator 0;
  step = steps.Mutator (record { mutator = 0; action = actions.New (record { number = 0 }) (record { pointers = 0; values = 0 }) });
  reply = replies.Done;
})

-- what is read of a place that there is doesn't hang on what is read of others
read_again : (es : List Event) (i : ℕ) (d e : Event) → i < length es → get_or es i d ≡ get_or es i e
read_again [] i d e inside = absurd (omega (arith, inside))
read_again (x ∷ xs) zero d e inside = refl
read_again (x ∷ xs) (suc i) d e inside = read_again xs i d e (omega (arith, inside))

pub event_there : (es : List Event) (i : ℕ) → i < length es → event_in es i ≡ get_or es i (event_in es i)
event_there es i inside = read_again es i _ _ inside
