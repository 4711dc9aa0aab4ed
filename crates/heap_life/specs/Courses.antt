-- A run of a list of events on its way.
use Rattle.std.specs.Prelude.{◌≡◌, ℕ, ◌+◌, ◌%◌, ◌==◌, ◌||◌, min, List, [], ◌∷◌, ◌++◌}
use Rattle.heap_steps.specs.declared.step.Event.{Event}
use Rattle.graph_runs.specs.State.{State}
use Rattle.step_core.specs.Stands.{CoreState}
use Rattle.step_core.specs.Passages.{Runs}
use Rattle.heap_life.specs.Paces.{counts, one_if, shows}
use Rattle.heap_life.specs.Lives.{moved_by, NotesTold}
use Rattle.heap_life.specs.declared.pace.Pace.{Pace}
use Rattle.heap_life.specs.declared.course.Course.{Course}

-- the step of an event was done in core c, which led to c': the event that was made of it has the reply
pub record IsDoneIn (e made : Event) (c c' : CoreState) : Type 0 where
  pub actor : made.actor ≡ e.actor
  pub step : made.step ≡ e.step
  pub config : c'.config ≡ c.config
  pub runs : (first : CoreState) (es : List Event) (s : State) → Runs s first es c → Runs s first (es ++ made ∷ []) c'

-- Event n, from 0, was passed: x was the course before, and y has one event more, and the moment before it where one is due
pub record PassesEvent (p : Pace) (e : Event) (n : ℕ) (c c' : CoreState) (x y : Course) : Type 0 where
  pub made : Event
  pub passed : IsDoneIn e made c c'
  pub events : y.done.events ≡ x.done.events ++ made ∷ []
  pub sizes : y.done.config ≡ x.done.config
  pub counted : y.counted ≡ x.counted + one_if (counts p e.step)
  pub copied : y.copied ≡ min (x.copied + moved_by made.reply) 18446744073709551615
  pub behind : y.behind ≡ shows p e.step x.counted
  pub notes : NotesTold (x.behind || shows p e.step x.counted || n % p.every == 0) c n x.copied x.moments.items y.moments.items x.teller
      y.teller
