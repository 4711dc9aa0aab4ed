-- A journal that does a plan: a turn keeps it, and at its end the record is the plan's.
use Rattle.std.proofs.Common.{◌≡◌, ℕ, ◌<◌, ◌≤◌, List, [], ap, sym, ◌∙◌, subst, arith, get_or, length}
use Rattle.std.specs.Prelude.{slice_index}
use Rattle.std.proofs.lemmas.List.{take_all}
use Rattle.heap_words.specs.declared.config.Config.{Config}
use Rattle.heap_steps.specs.Actors.{StepList, EventList}
use Rattle.step_core.specs.Steps.{Event, Step}
use Rattle.step_core.specs.Passages.{RunsTo}
use Rattle.step_core.proofs.Cores.Following.{passage_is_run}
use Rattle.mutators.specs.Scripts.{scripted, steps_of, lines_of, AreOwn}
use Rattle.mutators.specs.Journals.{JournalState, Keeps, mutators_of, script_at}
use Rattle.mutators.specs.Turns.{SamePlan}
use Rattle.mutators.specs.Draws.{open_places, lefts_of}
use Rattle.mutators.proofs.Draws.{lefts_at, none_open}
use Rattle.mutators.specs.Interleavings.{AreAsked, IsOf, IsInterleaving, IsRunOf}

pub same_plan : (plan : StepList) (markers refiners : ℕ) (j j' : JournalState) → SamePlan j j' → AreAsked markers refiners j'.events
    → IsOf plan markers refiners j → IsOf plan markers refiners j'
same_plan plan markers refiners j j' same asked was = record {
  config = same.0 ∙ was.config;
  scripts = λ k within. ap (λ (l : List (List Step)). get_or l k []) same.1 ∙ was.scripts k within;
  asked = asked;
}

-- what a journal holds at its end
pub whole_run : (plan : StepList) (markers refiners : ℕ) (d : JournalState) (r : EventList) → IsOf plan markers refiners d → Keeps d
    → ((k : ℕ) → k ≤ mutators_of d → length (script_at d k) ≤ slice_index d.places k) → r.config ≡ d.core.config
    → r.events ≡ d.events → IsRunOf plan markers refiners r
whole_run plan markers refiners d r is keeps end config events =
    let m : mutators_of d ≡ plan.config.mutators = ap (λ (c : Config). c.mutators) is.config in
    let whole : (k : ℕ) → k ≤ plan.config.mutators
    → steps_of (scripted plan.config.mutators k) d.events ≡ lines_of (scripted plan.config.mutators k) plan.steps = λ k within.
    let within' : k ≤ mutators_of d = omega (arith, m) in
    ap (λ (n : ℕ). steps_of (scripted n k) d.events) (sym m) ∙ (keeps.begins k within').0
    ∙ take_all (slice_index d.places k) (script_at d k) (end k within')
    ∙ is.scripts k within in
    let runs : RunsTo plan.config r.events d.core =
    subst (λ (x : Config × List Event). RunsTo x.0 x.1 d.core) (λ i. (is.config i, sym events i)) keeps.runs in
    record {
      config = config ∙ is.config;
      whole = subst (λ (es : List Event). IsInterleaving plan.config markers refiners plan.steps es) (sym events) (record {
        scripts = whole;
        own = subst (λ (n : Config). AreOwn n d.events) is.config keeps.own;
        asked = is.asked;
      });
      cores = (d.core, runs);
      last = runs.runs.last;
      run = passage_is_run _ _ _ _ _ runs.runs.passage;
    }

-- with no line left, each script is at its end
pub none_left : (d : JournalState) → Keeps d → length (open_places (lefts_of d)) ≡ 0 → (k : ℕ) → k ≤ mutators_of d
    → length (script_at d k) ≤ slice_index d.places k
none_left d keeps over k within =
    let row : k < length d.scripts = omega (arith, keeps.each_script) in
    let left = lefts_at d.scripts d.places k row in
    let none = (none_open 0 (lefts_of d) over).1 k in
    omega (arith, left, none)
