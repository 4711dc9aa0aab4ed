-- The events of a new heap, one after another.
use Rattle.std.proofs.Common.{◌≡◌, List, [], ◌∷◌, ◌++◌, subst, ◌↔◌}
use Rattle.cards.specs.Cards.{ListsDirtyOnce}
use Rattle.heap_words.specs.declared.config.Config.{Config}
use Rattle.heap_steps.specs.declared.step.Event.{Event}
use Rattle.heap_steps.specs.declared.step.Reply.TheVariants as replies
use Rattle.heap_steps.specs.declared.step.Refusal.TheVariants as refusals
use Rattle.graph_runs.specs.State.{State, first_state}
use Rattle.step_core.specs.Stands.{CoreState, Stands, IsCore, IsWhole}
use Rattle.step_core.specs.Fresh.{fresh_core}
use Rattle.step_core.specs.Answers.{Follows, IsFullStep}
use Rattle.step_core.specs.Cycle.{Does}
use Rattle.step_core.specs.Passages.{RunsTo, Runs}
use Rattle.step_core.proofs.Cores.Following.{goes_on, none_yet}

-- a new heap has come to no events
pub runs_none : (config : Config) (c : CoreState) → c ≡ fresh_core config → IsCore c → Stands (first_state config) c → RunsTo config [] c
runs_none config c fresh core st = record {
  core = subst IsCore fresh core;
  stands = subst (λ (d : CoreState). Stands (first_state config) d) fresh st;
  runs = subst (λ (d : CoreState). Runs (first_state config) d [] c) fresh (none_yet (first_state config) c st);
}

-- one event more
pub runs_on : (config : Config) (es : List Event) (e : Event) (c c' : CoreState) → RunsTo config es c
    → ((s : State) → Stands s c → Follows s e.step e.reply c') → Does e.step e.reply c c'
    → ((s : State) → Stands s c → (e.reply ≡ replies.Refused refusals.Full) ↔ IsFullStep s.graph e.step c) → IsCore c'
    → ListsDirtyOnce c'.cards → ((s : State) → Stands s c' → IsWhole s.graph c') → RunsTo config (es ++ e ∷ []) c'
runs_on config es e c c' r follows does full core listed whole = record {
  core = r.core;
  stands = r.stands;
  runs = goes_on (first_state config) (fresh_core config) es e c c' r.runs follows does full core listed whole;
}
