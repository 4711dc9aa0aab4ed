-- A step's event is read from its answer.
use Rattle.std.proofs.Common.{◌≡◌, ◌∙◌, ◌-◌, ◌==◌, ℕ, List, [], ◌∷◌, Some, None, inl, inr, if◌then◌else◌, refl, sym, ap}
use Rattle.heap_steps.specs.declared.step.CollectorStep.TheVariants as collector
use Rattle.heap_steps.specs.declared.step.Event.{Event}
use Rattle.heap_steps.specs.declared.step.Refusal.{Refusal}
use Rattle.heap_steps.specs.declared.step.Refusal.TheVariants as refusals
use Rattle.heap_steps.specs.declared.step.Reply.{Reply}
use Rattle.heap_steps.specs.declared.step.Reply.TheVariants as replies
use Rattle.heap_steps.specs.declared.step.Step.{Step}
use Rattle.heap_steps.specs.declared.step.Step.TheVariants as steps
use Rattle.step_core.specs.Stands.{CoreState}
use Rattle.heap_calls.specs.Numbers.{counted, numbers, refused}
use Rattle.heap_calls.specs.declared.answer.Answer.{Answer}
use Rattle.g1heap_c.specs.Calls.{StepCall, telling}
use Rattle.g1heap_c.specs.Runs.{HasEvents, event_of}

-- the refusal of a code, and the reply of an answer: of codes that tell none any
abbrev refusal_of : ℕ → Refusal
refusal_of n =
    if n == 16 then refusals.Nil else (if n == 17 then refusals.NoField else (if n == 18 then refusals.Full else (
    if n == 19 then refusals.TooBig else (if n == 20 then refusals.NamesSpent else (
    if n == 21 then refusals.MarkRunning else refusals.NotMarking)))))

abbrev reply_of : Answer → Reply
reply_of y =
    if y.code == 0 then replies.Done else (if y.code == 1 then replies.Named None else (
    if y.code == 2 then replies.Named (Some y.first) else (if y.code == 3 then replies.Word y.first else (
    if y.code == 4 then replies.Shape y.first y.second else (if y.code == 5 then replies.Marked y.first else (
    if y.code == 6 then replies.Reclaimed y.first else (if y.code == 7 then replies.Refined y.first else (
    if y.code == 8 then replies.Moved y.second y.first else (if y.code == 9 then replies.Done else
    replies.Refused (refusal_of y.code))))))))))

-- the events of a step with an answer
abbrev events_in : Step → Answer → List Event
events_in step y = if y.code == 32 then [] else event_of step (reply_of y) ∷ []

in_refused : (step : Step) (why : Refusal) → events_in step (refused why) ≡ event_of step (replies.Refused why) ∷ []
in_refused step refusals.Nil = refl
in_refused step _ = refl

in_numbers : (step : Step) (r : Reply) → events_in step (numbers r) ≡ event_of step r ∷ []
in_numbers step (replies.Refused why) = in_refused step why
in_numbers step (replies.Named None) = refl
in_numbers step _ = refl

in_counted : (step : Step) (n : ℕ) (r : Reply) → events_in step (counted n r) ≡ event_of step r ∷ []
in_counted step n (replies.Named name) = in_numbers step (replies.Named name)
in_counted step n (replies.Refused why) = in_refused step why
in_counted step n _ = refl

in_telling : (step : Step) (c d : CoreState) (r : Reply) → events_in step (telling step c d r) ≡ event_of step r ∷ []
in_telling (steps.Collector (collector.Mark k)) c d r =
    in_counted (steps.Collector (collector.Mark k)) (d.marker.scans.since - c.marker.scans.since) r
in_telling step c d r = in_numbers step r

module _ (step : Step) (answer : Answer) where
  events_are : (c d : CoreState) (es : List Event) → HasEvents c es (StepCall step) answer d → es ≡ events_in step answer
  events_are c d es (inl (is, h)) = h.events ∙ sym (in_telling step c d h.reply) ∙ ap (events_in step) (sym h.tells)
  events_are c d es (inr (isnt, h)) = h.events ∙ ap (events_in step) (sym h.tells)

  pub one_event : (c d : CoreState) (es : List Event) (c' d' : CoreState) (fs : List Event) → HasEvents c es (StepCall step) answer d
      → HasEvents c' fs (StepCall step) answer d' → es ≡ fs
  one_event c d es c' d' fs h k = events_are c d es h ∙ sym (events_are c' d' fs k)
