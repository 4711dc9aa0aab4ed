-- From a life over the steps of a plan to the page of the plan.
use Rattle.std.proofs.Common.{◌≡◌, ◌∙◌, ℕ, List, map, subst}
use Rattle.heap_words.specs.declared.config.Config.{Config}
use Rattle.heap_steps.specs.Actors.{StepList, EventList}
use Rattle.graph_runs.specs.State.{first_state}
use Rattle.graph_runs.specs.Run.{IsRun}
use Rattle.step_core.specs.Passages.{RunsFromNew, step_in, actor_in, actor_of}
use Rattle.heap_life.specs.declared.life.Life.{Life}
use Rattle.heap_life.specs.Lives.{IsLifeOf}
use Rattle.heap_life.specs.Pages.{IsPageOf}
use Rattle.heap_life.specs.Drawings.{IsPageOfPlan}

pub of_plan : (name names : List ℕ) (every : ℕ) (plan : StepList) (events : EventList) (page : List ℕ) (life : Life)
    → events.config ≡ plan.config → map step_in events.events ≡ plan.steps
    → map actor_in events.events ≡ map actor_of plan.steps → IsLifeOf every events life → IsPageOf name names life page
    → IsPageOfPlan name names every plan page
of_plan name names every plan events page life sizes steps actors l drawn = record {
  life = life;
  made = record {
    config = l.config ∙ sizes;
    steps = l.steps ∙ steps;
    actors = l.actors ∙ actors;
    last = l.last;
    run = subst (λ (c : Config). IsRun (first_state c) life.history.events l.last) sizes l.run;
    cores = subst (λ (c : Config). RunsFromNew c life.history.events) sizes (l.end, l.ends);
  };
  events = events;
  lives = l;
  drawn = drawn;
}
