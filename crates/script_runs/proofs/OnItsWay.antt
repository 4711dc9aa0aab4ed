-- A record on its way to the writer, by one event more.
use Rattle.std.proofs.Common.{◌≡◌, ◌≢◌, ℕ, List, [], ◌∷◌, ◌++◌, Result, Ok, Err, map, ap, refl, sym, subst, ◌∙◌, append_assoc}
use Rattle.std.proofs.lemmas.List.{append-nil, map-append}
use Rattle.std.proofs.KnownBytes.{Keeps-refl}
use Rattle.std.specs.Prelude.{⊤, OnOk, OnErr, codes}
use Rattle.heap_steps.specs.Actors.{StepList, EventList, step_in}
use Rattle.heap_steps.specs.declared.step.Event.{Event}
use Rattle.heap_steps.specs.declared.step.Actor.{Actor}
use Rattle.heap_steps.specs.declared.step.Step.{Step}
use Rattle.heap_steps.specs.declared.step.Step.TheVariants as steps
use Rattle.script_text.specs.Records.{actor_word, body_words, reply_words, record_text, IsToldBy}
use Rattle.script_text.specs.Spelling.{step_words, spaced}
use Rattle.script_text.specs.Watched.{Writer, TookBytes, TakesPart}
use Rattle.script_text.proofs.BothWays.EventsRead.{some_body}
use Rattle.script_text.proofs.Output.LinesOut.{fails}
use Rattle.heap_words.specs.declared.config.Config.{Config}
use Rattle.heap_steps.specs.declared.fault.RunFault.{RunFault}
use Rattle.heap_steps.specs.Faults.{IsRunFault}
use Rattle.job_ends.specs.declared.faults.JobFault.TheVariants.{Run, Write}
use Rattle.graph_runs.specs.State.{first_state}
use Rattle.step_core.specs.Fresh.{fresh_core}
use Rattle.script_text.specs.Written.{Lines, AreLinesOf, no_events, with_events}
use Rattle.script_text.specs.declared.fault.WriteFault.{WriteFault}
use Rattle.script_text.specs.declared.fault.WriteFault.TheVariants as writes
use Rattle.step_core.specs.Passages.{RunsTo, IsRunInOrder, actor_in, actor_of}
use Rattle.step_core.specs.Stands.{CoreState, Stands, IsCore}
use Rattle.step_core.proofs.Cores.Following.{passage_is_run}
use Rattle.step_core.proofs.Cores.Running.{runs_none}
use Rattle.script_runs.specs.InOrder.{AnswersInOrder, HasDone, IsOnItsWay}

-- the record of the plan with these events
abbrev pub record_by : StepList → List Event → EventList
record_by plan es = record { config = plan.config; events = es }

-- the line of an event is the script's line of its step, an equals sign and the reply
told_is : (actor x : List ℕ) (xs body : List (List ℕ)) (reply : List ℕ) → body ≡ x ∷ xs
    → spaced (actor ∷ spaced body ∷ codes "=" ∷ reply ∷ []) ≡ spaced (actor ∷ body) ++ codes " = " ++ reply
told_is actor x xs body reply is =
    rw is (sym (append_assoc (actor ++ 32 ∷ spaced (x ∷ xs)) (codes " = ") reply
    ∙ append_assoc actor (32 ∷ spaced (x ∷ xs)) (codes " = " ++ reply)))

actor_first : (s : Step) → step_words s ≡ actor_word (actor_of s) ∷ body_words s
actor_first (steps.Mutator o) = refl
actor_first (steps.Collector k) = refl

pub told_by_line : (line : List ℕ) (s : Step) (e : Event) → line ≡ spaced (step_words s) → e.step ≡ s → e.actor ≡ actor_of s
    → IsToldBy line e.reply e
told_by_line line s e spelled step actor =
    let body = some_body e.step in
    let reply : List ℕ = spaced (reply_words e.reply) in
    let whole : line ≡ spaced (actor_word e.actor ∷ body_words e.step) =
    spelled ∙ ap spaced (actor_first s) ∙ ap (λ (a : Actor). spaced (actor_word a ∷ body_words s)) (sym actor)
    ∙ ap (λ (t : Step). spaced (actor_word e.actor ∷ body_words t)) (sym step) in
    told_is (actor_word e.actor) body.0 body.1 (body_words e.step) reply body.2
    ∙ ap (λ (t : List ℕ). t ++ codes " = " ++ reply) (sym whole)

-- the writer refused before, so it did with whatever events come after one more
pub refused_before : (plan : StepList) (es : List Event) (e : Event) (first now : Writer) (lines lines' : Lines) (fault : WriteFault)
    → IsOnItsWay plan es first now lines (Err fault) → IsOnItsWay plan (es ++ e ∷ []) first now lines' (Err fault)
refused_before plan es e first now lines lines' fault (other, stopped) = (
  other,
  λ more. subst (λ (all : List Event). TakesPart first now (record_text (record_by plan all)))
      (sym (append_assoc es (e ∷ []) more)) (stopped (e ∷ more)),
)

-- one more line was put, or refused
pub one_put : (plan : StepList) (es : List Event) (e : Event) (first old new : Writer) (lines lines' : Lines) (r : Result ⊤ WriteFault)
    → OnOk r ((w : Writer) (had : EventList) → AreLinesOf had w old lines → AreLinesOf (with_events had (e ∷ [])) w new lines')
    → OnErr r ((w : Writer) (had : EventList) (more : List Event) → AreLinesOf had w old lines
    → TakesPart w new (record_text (with_events had more)))
    → r ≢ Err writes.NoMemory → AreLinesOf (with_events (no_events plan.config) es) first old lines
    → IsOnItsWay plan (es ++ e ∷ []) first new lines' r
one_put plan es e first old new lines lines' (Ok done) ok err other before =
    ok first (with_events (no_events plan.config) es) before
one_put plan es e first old new lines lines' (Err fault) ok err other before =
    refused_before plan es e first new lines lines' fault
    (λ is. other (ap Err is), λ more. err first (with_events (no_events plan.config) es) more before)

-- what each event has of its step, one step on
moved_on : {A : Type 0} (in_event : Event → A) (es : List Event) (e : Event) (x : A) (left all : List A) → in_event e ≡ x
    → map in_event es ++ x ∷ left ≡ all → map in_event (es ++ e ∷ []) ++ left ≡ all
moved_on in_event es e x left all same so_far =
    ap (λ xs. xs ++ left) (map-append in_event es (e ∷ [])) ∙ append_assoc (map in_event es) (in_event e ∷ []) left
    ∙ ap (λ y. map in_event es ++ y ∷ left) same ∙ so_far

-- one step more is done
pub one_done : (plan : StepList) (s : Step) (had left : List Step) (e : Event) (c c' : CoreState) (first old new : Writer)
    (lines lines' : Lines) (before after : Result ⊤ WriteFault) → had ≡ s ∷ left → e.step ≡ s → e.actor ≡ actor_of s
    → ((es : List Event) → RunsTo plan.config es c → RunsTo plan.config (es ++ e ∷ []) c')
    → ((es : List Event) → IsOnItsWay plan es first old lines before → IsOnItsWay plan (es ++ e ∷ []) first new lines' after)
    → HasDone plan had c first old lines before → HasDone plan left c' first new lines' after
one_done plan s had left e c c' first old new lines lines' before after taken step actor runs way h = record {
  events = h.events ++ e ∷ [];
  steps = moved_on step_in h.events e s left plan.steps step
      (ap (λ (ss : List Step). map step_in h.events ++ ss) (sym taken) ∙ h.steps);
  actors = moved_on actor_in h.events e (actor_of s) (map actor_of left) (map actor_of plan.steps) actor
      (ap (λ (ss : List Step). map actor_in h.events ++ map actor_of ss) (sym taken) ∙ h.actors);
  runs = runs h.events h.runs;
  record_is = way h.events h.record_is;
}

-- nothing is done yet
pub none_done : (plan : StepList) (config : Config) (c : CoreState) (w : Writer) (lines : Lines) → config ≡ plan.config
    → c ≡ fresh_core config → IsCore c → Stands (first_state config) c → ((w : Writer) → AreLinesOf (no_events config) w w lines)
    → HasDone plan plan.steps c w w lines (Ok tt)
none_done plan config c w lines same fresh core stands begun = record {
  events = [];
  steps = refl;
  actors = refl;
  runs = subst (λ (sizes : Config). RunsTo sizes [] c) same (runs_none config c fresh core stands);
  record_is = subst (λ (sizes : Config). AreLinesOf (no_events sizes) w w lines) same (begun w);
}

-- all is done: a run of the plan
pub all_done : (plan : StepList) (c : CoreState) (first now : Writer) (lines : Lines) (outcome : Result ⊤ WriteFault)
    → (h : HasDone plan [] c first now lines outcome)
    → IsRunInOrder plan (record_by plan h.events)
all_done plan c first now lines outcome h = record {
  config = refl;
  steps = sym (append-nil (map step_in h.events)) ∙ h.steps;
  actors = sym (append-nil (map actor_in h.events)) ∙ h.actors;
  last = h.runs.runs.last;
  run = passage_is_run (first_state plan.config) (fresh_core plan.config) h.events h.runs.runs.last c h.runs.runs.passage;
  cores = (c, h.runs);
}

-- a fault of the run, and nothing was written
pub faulted : (plan : StepList) (config : Config) (fault : RunFault) (w : Writer) → config ≡ plan.config → IsRunFault config fault
    → AnswersInOrder plan w w (Err (Run fault))
faulted plan config fault w same may =
    (Err fault, tt, subst (λ (sizes : Config). IsRunFault sizes fault) same may, (refl, (Keeps-refl w.held, refl)))

-- all is done, and the writer refused a line
pub stopped_within : (plan : StepList) (c : CoreState) (old new : Writer) (lines : Lines) (fault : WriteFault)
    → HasDone plan [] c old new lines (Err fault) → AnswersInOrder plan old new (Err (Write fault))
stopped_within plan c old new lines fault h =
    let r = record_by plan h.events in (
      Ok r,
      all_done plan c old new lines (Err fault) h,
      tt,
      fails fault old new (record_text r) h.record_is.0
          (subst (λ (all : List Event). TakesPart old new (record_text (record_by plan all))) (append-nil h.events)
          (h.record_is.1 [])),
    )

-- all is done, and the last lines are written
pub finished : (plan : StepList) (c : CoreState) (old now new : Writer) (lines : Lines) (r : Result ⊤ WriteFault)
    → OnOk r ((w : Writer) (had : EventList) → AreLinesOf had w now lines → TookBytes w new (record_text had))
    → HasDone plan [] c old now lines (Ok tt) → r ≡ Ok tt → AnswersInOrder plan old new (Ok tt)
finished plan c old now new lines r took h is =
    let made = record_by plan h.events in
    let took : (w : Writer) (had : EventList) → AreLinesOf had w now lines → TookBytes w new (record_text had) =
    subst (λ (done : Result ⊤ WriteFault). OnOk done ((w : Writer) (had : EventList) → AreLinesOf had w now lines
    → TookBytes w new (record_text had))) is took in
    (Ok made, all_done plan c old now lines (Ok tt) h, tt, took old made h.record_is)

-- all is done, and the writer refused the last lines
pub stopped_last : (plan : StepList) (c : CoreState) (old now new : Writer) (lines : Lines) (fault : WriteFault) → fault ≢ writes.NoMemory
    → ((w : Writer) (had : EventList) → AreLinesOf had w now lines → TakesPart w new (record_text had))
    → HasDone plan [] c old now lines (Ok tt) → AnswersInOrder plan old new (Err (Write fault))
stopped_last plan c old now new lines fault other stop h =
    let made = record_by plan h.events in (
      Ok made,
      all_done plan c old now lines (Ok tt) h,
      tt,
      fails fault old new (record_text made) other (stop old made h.record_is),
    )
