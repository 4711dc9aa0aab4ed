-- The code of each answer of a run is one that calls on a heap have.
use Rattle.std.proofs.Common.{◌≡◌, ◌-◌, ℕ, Bool, false, true, List, [], ◌∷◌, Option, Some, None, inl, inr, refl, sym, subst, arith}
use Rattle.std.specs.Prelude.{All}
use Rattle.std.proofs.lemmas.List.Elements.{All-cons, All-nil}
use Rattle.heap_steps.specs.declared.step.CollectorStep.TheVariants as collector
use Rattle.heap_steps.specs.declared.step.Event.{Event}
use Rattle.heap_steps.specs.declared.step.Refusal.{Refusal}
use Rattle.heap_steps.specs.declared.step.Refusal.TheVariants as refusals
use Rattle.heap_steps.specs.declared.step.Reply.{Reply}
use Rattle.heap_steps.specs.declared.step.Reply.TheVariants as replies
use Rattle.heap_steps.specs.declared.step.Step.{Step}
use Rattle.heap_steps.specs.declared.step.Step.TheVariants as steps
use Rattle.graph_runs.specs.State.{State}
use Rattle.step_core.specs.Mutators.{register_of}
use Rattle.step_core.specs.Stands.{CoreState, name_in}
use Rattle.heap_calls.specs.Numbers.{counted, numbers, refused, register}
use Rattle.heap_calls.specs.Loads.{word_or_name}
use Rattle.heap_calls.specs.Steps.{given_back}
use Rattle.heap_calls.specs.Ways.{way_answer}
use Rattle.heap_calls.specs.declared.answer.Answer.{Answer}
use Rattle.g1heap_c.specs.Calls.{Call, Called, IsAnswerTo, Question, telling}
use Rattle.g1heap_c.specs.Calls.{NewCall, StepCall, NewFilledCall, MakeCall, MakeFilledCall, CollectCall, CollectAllCall, ReadWordsCall}
use Rattle.g1heap_c.specs.Calls.{GetWordCall, ManyCall, WriteWordsCall, WalkCall, WhoCall, AskCall, GiveBackCall, ShrinkCall, NoStepCall}
use Rattle.g1heap_c.specs.Calls.{FreeCall, MarkingsCall, PathCall}
use Rattle.g1heap_c.specs.Calls.{FreeRun, Marking, Grey, Clearing, Name}
use Rattle.g1heap_c.specs.Runs.{AreRun, CallsRun, HasCode, HasEvents, IsCode, IsReadLoaded}
use Rattle.g1heap_c.proofs.Named.{is_register}

none : IsCode 32
none = inr (inr (inl refl))

live : IsCode 34
live = inr (inr (inr (inl refl)))

of_given : (granted : Bool) → IsCode (given_back granted).code
of_given true = inl (omega arith)
of_given false = inr (inr (inr (inr refl)))

of_refused : (why : Refusal) → IsCode (refused why).code
of_refused refusals.Nil = inr (inl (omega arith, omega arith))
of_refused _ = inr (inl (omega arith, omega arith))

of_numbers : (r : Reply) → IsCode (numbers r).code
of_numbers (replies.Refused why) = of_refused why
of_numbers (replies.Named None) = inl (omega arith)
of_numbers _ = inl (omega arith)

of_counted : (n : ℕ) (r : Reply) → IsCode (counted n r).code
of_counted n (replies.Named name) = of_numbers (replies.Named name)
of_counted n (replies.Refused why) = of_refused why
of_counted n _ = inl (omega arith)

of_telling : (step : Step) (c d : CoreState) (r : Reply) → IsCode (telling step c d r).code
of_telling (steps.Collector (collector.Mark k)) c d r = of_counted (d.marker.scans.since - c.marker.scans.since) r
of_telling _ c d r = of_numbers r

of_way : (count : Option ℕ) → IsCode (way_answer count).code
of_way None = inr (inl (omega arith, omega arith))
of_way (Some k) = inl (omega arith)

-- an answer that equals another one has its code
alike : (y z : Answer) → y ≡ z → IsCode z.code → IsCode y.code
alike y z e h = subst (λ (x : Answer). IsCode x.code) (sym e) h

of_question : (q : Question) (c : CoreState) (y : Answer) → IsAnswerTo q c y → IsCode y.code
of_question FreeRun c y h = alike y _ h.is (inl (omega arith))
of_question Marking c y (inl h) = alike y _ h.0 (inl (omega arith))
of_question Marking c y (inr h) = alike y _ h.0 (inl (omega arith))
of_question Grey c y (inl h) = alike y _ h.0 (inl (omega arith))
of_question Grey c y (inr h) = alike y _ h.0 (inl (omega arith))
of_question Clearing c y (inl h) = alike y _ h.0 (inl (omega arith))
of_question Clearing c y (inr h) = alike y _ h.0 (inl (omega arith))
of_question (Name m r) c y h = elim (is_register c m r) [
  | inl is ↦ alike y _ (h.name is) (of_numbers (replies.Named (name_in c.table (register_of c m (register r)))))
  | inr isnt ↦ alike y _ (h.none isnt) none
]
of_question _ c y h = alike y _ h (inl (omega arith))

of_word : (name : ℕ) (r : Reply) → IsCode (word_or_name name r).code
of_word name (replies.Word word) = inl (omega arith)
of_word name _ = inl (omega arith)

of_loaded : (r : Reply) (es : List Event) (m to word : ℕ) (y : Answer) → IsReadLoaded r es m to word y → IsCode y.code
of_loaded (replies.Named (Some name)) es m to word y h = alike y _ h.2 (of_word name h.0)
of_loaded (replies.Named None) es m to word y h = alike y _ h.1 (of_numbers (replies.Named None))
of_loaded (replies.Refused why) es m to word y h = alike y _ h.1 (of_refused why)
of_loaded replies.Done es m to word y h = alike y _ h.1 (of_numbers replies.Done)
of_loaded (replies.Word v) es m to word y h = alike y _ h.1 (of_numbers (replies.Word v))
of_loaded (replies.Shape p v) es m to word y h = alike y _ h.1 (of_numbers (replies.Shape p v))
of_loaded (replies.Marked v) es m to word y h = alike y _ h.1 (of_numbers (replies.Marked v))
of_loaded (replies.Reclaimed v) es m to word y h = alike y _ h.1 (of_numbers (replies.Reclaimed v))
of_loaded (replies.Refined v) es m to word y h = alike y _ h.1 (of_numbers (replies.Refined v))
of_loaded (replies.Moved p v) es m to word y h = alike y _ h.1 (of_numbers (replies.Moved p v))

of_call : (c : CoreState) (es : List Event) (call : Call) (y : Answer) (d : CoreState) → HasEvents c es call y d → IsCode y.code
of_call c es (NewCall config) y d h = alike y _ h.tells live
of_call c es (StepCall step) y d (inl h) = alike y _ h.1.tells (of_telling step c d h.1.reply)
of_call c es (NewFilledCall m to from words) y d (inl h) = alike y _ h.1.tells (of_numbers h.1.reply)
of_call c es (MakeCall number m to pointers weaks values) y d (inl h) = alike y _ h.1.tells (of_numbers h.1.reply)
of_call c es (MakeFilledCall number m to from words) y d (inl h) = alike y _ h.1.tells (of_numbers h.1.reply)
of_call c es CollectCall y d h = alike y _ h.tells (inl (omega arith))
of_call c es CollectAllCall y d h = alike y _ h.tells (inl (omega arith))
of_call c es (GetWordCall m to object field word) y d (inl h) = of_loaded h.1.reply h.1.reads m to word y h.1.read
of_call c es (ManyCall many) y d (inl (is, inl h)) = alike y _ h.tells (inl (omega arith))
of_call c es (ManyCall many) y d (inl (is, inr h)) = alike y _ h.tells (of_refused h.why)
of_call c es (ReadWordsCall m object from before after) y d (inl (is, inl h)) = alike y _ h.tells (inl (omega arith))
of_call c es (ReadWordsCall m object from before after) y d (inl (is, inr h)) = alike y _ h.refused.tells (of_refused h.refused.why)
of_call c es (ReadWordsCall m object from before after) y d (inr h) = alike y _ h.1.0.tells none
of_call c es (WriteWordsCall m object from words) y d (inl (is, inl h)) = alike y _ h.tells (inl (omega arith))
of_call c es (WriteWordsCall m object from words) y d (inl (is, inr h)) = alike y _ h.tells (of_refused h.why)
of_call c es (WalkCall from to before after) y d h = alike y _ h.answers.is (inl (omega arith))
of_call c es (WhoCall name from to before after) y d h = alike y _ h.answers.is (inl (omega arith))
of_call c es (PathCall name ended before after) y d h = alike y _ h.answers.is (of_way h.answers.count)
of_call c es (AskCall question) y d h = of_question question c y h.answers
of_call c es (MarkingsCall count) y d h = alike y _ h.answers (inl (omega arith))
of_call c es (GiveBackCall granted) y d h = alike y _ h.tells (of_given granted)
of_call c es (ShrinkCall granted) y d h = alike y _ h.tells (of_given granted)
of_call c es NoStepCall y d h = alike y _ h.tells none
of_call c es FreeCall y d h = absurd h
of_call c es _ y d (inr h) = alike y _ h.1.tells none

of_calls : (calls : List Called) (s : State) (c : CoreState) (es : List Event) (last : State) → CallsRun s c es calls last
    → All HasCode calls
of_calls [] s c es last h = All-nil HasCode
of_calls (x ∷ xs) s c es last h =
    All-cons HasCode x xs (of_call c h.1 x.call x.answer x.after h.4.has) (of_calls xs h.0 x.after h.2 last h.5)

pub have_codes : (s : State) (c : CoreState) (calls : List Called) → AreRun s c calls → All HasCode calls
have_codes s c calls h = of_calls calls s c h.events h.last h.each
