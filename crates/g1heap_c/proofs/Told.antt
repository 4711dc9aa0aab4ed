-- A call's answer is fixed by its events, with the heap before and after it.
use Rattle.std.proofs.Common.{◌≡◌, ◌⊎◌, ◌∙◌, ◌++◌, ◌≤◌, ℕ, List, [], ◌∷◌, inl, inr, sym, ap, length, subst, arith, Some, None}
use Rattle.std.specs.Prelude.{All}
use Rattle.std.proofs.lemmas.List.Elements.{All-head, All-tail}
use Rattle.heap_steps.specs.Actors.{IsOp, IsStep}
use Rattle.heap_steps.specs.declared.step.Event.{Event}
use Rattle.heap_steps.specs.declared.step.Op.{Op}
use Rattle.heap_steps.specs.declared.step.Refusal.{Refusal}
use Rattle.heap_steps.specs.declared.step.Reply.{Reply}
use Rattle.heap_steps.specs.declared.step.Reply.TheVariants as replies
use Rattle.heap_steps.specs.declared.step.Step.{Step}
use Rattle.heap_steps.specs.declared.step.Step.TheVariants as steps
use Rattle.step_core.specs.Measures.{HasGrey, HasSlotsLeft}
use Rattle.step_core.specs.Stands.{CoreState}
use Rattle.collection.specs.Steps.{IsCollectors}
use Rattle.heap_calls.specs.Filled.{AreFields}
use Rattle.heap_calls.specs.FreeRuns.{IsLongestRun}
use Rattle.heap_calls.specs.Loads.{loading, word_or_name}
use Rattle.heap_calls.specs.Numbers.{numbers, register, told}
use Rattle.heap_calls.specs.Rows.{AreSteps, Many, last_step}
use Rattle.heap_calls.specs.Steps.{HasRegister, IsMarking, given_back}
use Rattle.heap_calls.specs.Ways.{way_answer}
use Rattle.heap_calls.specs.declared.answer.Answer.{Answer}
use Rattle.g1heap_c.specs.Calls.{Call, IsAnswerTo, Question, telling}
use Rattle.g1heap_c.specs.Calls.{NewCall, StepCall, NewFilledCall, MakeCall, MakeFilledCall, CollectCall, CollectAllCall, ReadWordsCall}
use Rattle.g1heap_c.specs.Calls.{GetWordCall, ManyCall, WriteWordsCall, WalkCall, WhoCall, AskCall, GiveBackCall, ShrinkCall, NoStepCall}
use Rattle.g1heap_c.specs.Calls.{FreeCall, MarkingsCall, PathCall}
use Rattle.g1heap_c.specs.Calls.{FreeRun, Marking, Grey, Clearing, Name}
use Rattle.g1heap_c.specs.Policies.{asked}
use Rattle.g1heap_c.specs.Runs.{HasEvents, HasFilling, HasLoaded, HasMaking, HasMakingAndFilling, HasNoEvent, HasNotRead, HasRead}
use Rattle.g1heap_c.specs.Runs.{HasDone, HasMany, HasRefused, HasStep}
use Rattle.g1heap_c.specs.Runs.{HasWritten, IfElse, IsReadLoaded, event_of, last_read, last_write, reads_of, writes_of}
use Rattle.g1heap_c.proofs.Named.{is_register}
use Rattle.g1heap_c.proofs.OneWay.{one_way}

head_is : (x y : Event) (xs ys : List Event) → x ∷ xs ≡ y ∷ ys → x ≡ y
head_is x y xs ys e = cc

tail_is : (x y : Event) (xs ys : List Event) → x ∷ xs ≡ y ∷ ys → xs ≡ ys
tail_is x y xs ys e = cc

replies_are : (x y : Event) (xs ys : List Event) → x ∷ xs ≡ y ∷ ys → x.reply ≡ y.reply
replies_are x y xs ys e = ap (λ (z : Event). z.reply) (head_is x y xs ys e)

-- a mutator's step is none of the collector's
mine : (op : Op) (r : Reply) (y : Event) → event_of (steps.Mutator op) r ≡ y → IsCollectors y → ⊥
mine op r y e h = let z : steps.Mutator op ≡ steps.Collector h.step = ap (λ (x : Event). x.step) e ∙ h.is in cc

-- the first mutator's step of some events has one reply
own_is : (op : Op) (r q : Reply) (a b f g : List Event) → All IsCollectors a → All IsCollectors b
    → a ++ event_of (steps.Mutator op) r ∷ f ≡ b ++ event_of (steps.Mutator op) q ∷ g → r ≡ q
own_is op r q [] [] f g ca cb e = replies_are (event_of (steps.Mutator op) r) (event_of (steps.Mutator op) q) f g e
own_is op r q [] (y ∷ b) f g ca cb e = absurd (mine op r y (head_is _ _ _ _ e) (All-head IsCollectors y b cb))
own_is op r q (x ∷ a) [] f g ca cb e = absurd (mine op q x (sym (head_is _ _ _ _ e)) (All-head IsCollectors x a ca))
own_is op r q (x ∷ a) (y ∷ b) f g ca cb e =
    own_is op r q a b f g (All-tail IsCollectors x a ca) (All-tail IsCollectors y b cb) (tail_is _ _ _ _ e)

-- two that say this or that, as a fact holds or not, both say this or both that
same_side : (F A B C D G : Type 0) → IfElse F A B → IfElse F C D → (A → C → G) → (B → D → G) → G
same_side F A B C D G (inl p) (inl q) f g = f p.1 q.1
same_side F A B C D G (inl p) (inr q) f g = absurd (q.0 p.0)
same_side F A B C D G (inr p) (inl q) f g = absurd (p.0 q.0)
same_side F A B C D G (inr p) (inr q) f g = g p.1 q.1

module _ (c : CoreState) (es : List Event) (y z : Answer) (d : CoreState) where
  none_one : (code : Answer) → HasNoEvent c es code y d → HasNoEvent c es code z d → y ≡ z
  none_one code h k = h.tells ∙ sym k.tells

  step_one : (step : Step) → HasStep c es step y d → HasStep c es step z d → y ≡ z
  step_one step h k =
      let same : h.reply ≡ k.reply = replies_are _ _ _ _ (sym h.events ∙ k.events) in
      h.tells ∙ ap (λ (r : Reply). telling step c d r) same ∙ sym k.tells

  fill_one : (m to : ℕ) (from words : List ℕ) → HasFilling c es m to from words y d → HasFilling c es m to from words z d → y ≡ z
  fill_one m to from words h k =
      let same : h.reply ≡ k.reply = replies_are _ _ _ _ (sym h.events ∙ k.events) in
      h.tells ∙ ap numbers same ∙ sym k.tells

  make_one : (number to : ℕ) (op : Op) → HasMaking es number to op y → HasMaking es number to op z → y ≡ z
  make_one number to op h k =
      let same : h.reply ≡ k.reply =
      own_is op h.reply k.reply h.before k.before h.nils k.nils h.collectors k.collectors (sym h.events ∙ k.events) in
      h.tells ∙ ap numbers same ∙ sym k.tells

  make_fill_one : (number m to : ℕ) (from words : List ℕ) → HasMakingAndFilling es number m to from words y
      → HasMakingAndFilling es number m to from words z → y ≡ z
  make_fill_one number m to from words h k =
      let same : h.reply ≡ k.reply =
      own_is _ h.reply k.reply h.before k.before h.fills k.fills h.collectors k.collectors (sym h.events ∙ k.events) in
      h.tells ∙ ap numbers same ∙ sym k.tells

  refused_one : (step : Step) → HasRefused c es step y d → HasRefused c es step z d → y ≡ z
  refused_one step h k =
      let same : replies.Refused h.why ≡ replies.Refused k.why = replies_are _ _ _ _ (sym h.events ∙ k.events) in
      h.tells ∙ ap (λ (r : Reply). numbers r) same ∙ sym k.tells

  loaded_one : (r : Reply) (fs gs : List Event) (m to word : ℕ) → fs ≡ gs → IsReadLoaded r fs m to word y → IsReadLoaded r gs m to word z
      → y ≡ z
  loaded_one (replies.Named (Some name)) fs gs m to word e h k =
      let same : h.0 ≡ k.0 = replies_are _ _ _ _ (sym h.1 ∙ e ∙ k.1) in
      h.2 ∙ ap (λ (r : Reply). word_or_name name r) same ∙ sym k.2
  loaded_one (replies.Named None) fs gs m to word e h k = h.1 ∙ sym k.1
  loaded_one (replies.Refused why) fs gs m to word e h k = h.1 ∙ sym k.1
  loaded_one replies.Done fs gs m to word e h k = h.1 ∙ sym k.1
  loaded_one (replies.Word v) fs gs m to word e h k = h.1 ∙ sym k.1
  loaded_one (replies.Shape p v) fs gs m to word e h k = h.1 ∙ sym k.1
  loaded_one (replies.Marked v) fs gs m to word e h k = h.1 ∙ sym k.1
  loaded_one (replies.Reclaimed v) fs gs m to word e h k = h.1 ∙ sym k.1
  loaded_one (replies.Refined v) fs gs m to word e h k = h.1 ∙ sym k.1
  loaded_one (replies.Moved p v) fs gs m to word e h k = h.1 ∙ sym k.1

  load_one : (m to object field word : ℕ) → HasLoaded c es m to object field word y d → HasLoaded c es m to object field word z d → y ≡ z
  load_one m to object field word h k =
      let e = sym h.events ∙ k.events in
      let same : h.reply ≡ k.reply = replies_are _ _ _ _ e in
      loaded_one k.reply h.reads k.reads m to word (tail_is _ _ _ _ e)
      (subst (λ (r : Reply). IsReadLoaded r h.reads m to word y) same h.read) k.read

  no_read : (m object from : ℕ) (ws : List ℕ) (step : Step) (why : Refusal)
      → reads_of m (register object) from ws ≡ event_of step (replies.Refused why) ∷ [] → ⊥
  no_read m object from [] step why e = cc
  no_read m object from (w ∷ ws) step why e =
      let z : replies.Word w ≡ replies.Refused why = replies_are _ _ _ _ e in cc

  no_write : (m object from : ℕ) (ws : List ℕ) (step : Step) (why : Refusal)
      → writes_of m (register object) from ws ≡ event_of step (replies.Refused why) ∷ [] → ⊥
  no_write m object from [] step why e = cc
  no_write m object from (w ∷ ws) step why e =
      let z : replies.Done ≡ replies.Refused why = replies_are _ _ _ _ e in cc

  read_one : (m object from : ℕ) (before after : List ℕ)
      → HasRead c es m object from before after y d ⊎ HasNotRead c es m object from before after y d
      → HasRead c es m object from before after z d ⊎ HasNotRead c es m object from before after z d → y ≡ z
  read_one m object from before after (inl h) (inl k) = h.tells ∙ sym k.tells
  read_one m object from before after (inl h) (inr k) =
      absurd (no_read m object from after (last_read m (register object) from (length before)) k.refused.why
      (sym h.events ∙ k.refused.events))
  read_one m object from before after (inr h) (inl k) =
      absurd (no_read m object from after (last_read m (register object) from (length before)) h.refused.why
      (sym k.events ∙ h.refused.events))
  read_one m object from before after (inr h) (inr k) = refused_one (last_read m (register object) from (length before)) h.refused k.refused

  write_one : (m object from : ℕ) (ws : List ℕ)
      → HasWritten es m object from ws y ⊎ HasRefused c es (last_write m (register object) from ws) y d
      → HasWritten es m object from ws z ⊎ HasRefused c es (last_write m (register object) from ws) z d → y ≡ z
  write_one m object from ws (inl h) (inl k) = h.tells ∙ sym k.tells
  write_one m object from ws (inl h) (inr k) =
      absurd (no_write m object from ws (last_write m (register object) from ws) k.why (sym h.events ∙ k.events))
  write_one m object from ws (inr h) (inl k) =
      absurd (no_write m object from ws (last_write m (register object) from ws) h.why (sym k.events ∙ h.events))
  write_one m object from ws (inr h) (inr k) = refused_one (last_write m (register object) from ws) h k

  no_done : (step : Step) (why : Refusal) → es ≡ event_of step (replies.Refused why) ∷ [] → All HasDone es → ⊥
  no_done step why e all =
      All-head HasDone (event_of step (replies.Refused why)) [] (subst (λ (xs : List Event). All HasDone xs) e all)

  many_one : (x : Many) → HasMany es x y ⊎ HasRefused c es (last_step x) y d → HasMany es x z ⊎ HasRefused c es (last_step x) z d → y ≡ z
  many_one x (inl h) (inl k) = h.tells ∙ sym k.tells
  many_one x (inl h) (inr k) = absurd (no_done (last_step x) k.why k.events h.done)
  many_one x (inr h) (inl k) = absurd (no_done (last_step x) h.why h.events k.done)
  many_one x (inr h) (inr k) = refused_one (last_step x) h k

  longest_one : (n m : ℕ) → IsLongestRun c.table n → IsLongestRun c.table m → n ≡ m
  longest_one n m h k =
      let low : m ≤ n = h.most k.at m k.within k.free in
      let high : n ≤ m = k.most h.at n h.within h.free in
      omega (arith, low, high)

  sign_one : (P : CoreState → Type 0) → ((y ≡ told 10 1 0) × P c) ⊎ ((y ≡ told 10 0 0) × (P c → ⊥))
      → ((z ≡ told 10 1 0) × P c) ⊎ ((z ≡ told 10 0 0) × (P c → ⊥)) → y ≡ z
  sign_one P (inl h) (inl k) = h.0 ∙ sym k.0
  sign_one P (inl h) (inr k) = absurd (k.1 h.1)
  sign_one P (inr h) (inl k) = absurd (h.1 k.1)
  sign_one P (inr h) (inr k) = h.0 ∙ sym k.0

  ask_one : (q : Question) → IsAnswerTo q c y → IsAnswerTo q c z → y ≡ z
  ask_one FreeRun h k =
      let same : h.count ≡ k.count = longest_one h.count k.count h.longest k.longest in
      h.is ∙ ap (λ (n : ℕ). told 10 n 0) same ∙ sym k.is
  ask_one Marking h k = sign_one IsMarking h k
  ask_one Grey h k = sign_one HasGrey h k
  ask_one Clearing h k = sign_one HasSlotsLeft h k
  ask_one (Name m r) h k = elim (is_register c m r) [
    | inl is ↦ h.name is ∙ sym (k.name is)
    | inr isnt ↦ h.none isnt ∙ sym (k.none isnt)
  ]
  ask_one _ h k = h ∙ sym k

  none_else : HasNoEvent c es (told 32 0 0) y d → HasNoEvent c es (told 32 0 0) z d → y ≡ z
  none_else h k = none_one (told 32 0 0) h k

  pub one_answer : (call : Call) → HasEvents c es call y d → HasEvents c es call z d → y ≡ z
  one_answer (NewCall config) h k = none_one (told 34 0 0) h k
  one_answer (StepCall step) h k = same_side (IsStep c.config step) _ _ _ _ (y ≡ z) h k (step_one step) none_else
  one_answer (NewFilledCall m to from words) h k =
      same_side (AreFields c.config m to from words) _ _ _ _ (y ≡ z) h k (fill_one m to from words) none_else
  one_answer (MakeCall number m to pointers weaks values) h k =
      let op = asked m to pointers weaks values in
      same_side (IsOp c.config op) _ _ _ _ (y ≡ z) h k (make_one number to op) none_else
  one_answer (MakeFilledCall number m to from words) h k =
      same_side (AreFields c.config m to from words) _ _ _ _ (y ≡ z) h k (make_fill_one number m to from words) none_else
  one_answer CollectCall h k = h.tells ∙ sym k.tells
  one_answer CollectAllCall h k = h.tells ∙ sym k.tells
  one_answer (GetWordCall m to object field word) h k =
      same_side (IsStep c.config (loading m to object field)) _ _ _ _ (y ≡ z) h k (load_one m to object field word) none_else
  one_answer (ManyCall x) h k = same_side (AreSteps c.config x) _ _ _ _ (y ≡ z) h k (many_one x) none_else
  one_answer (ReadWordsCall m object from before after) h k =
      same_side (HasRegister c m object) _ _ _ _ (y ≡ z) h k (read_one m object from before after) (λ a b. none_else a.0 b.0)
  one_answer (WriteWordsCall m object from ws) h k =
      same_side (HasRegister c m object) _ _ _ _ (y ≡ z) h k (write_one m object from ws) none_else
  one_answer (WalkCall from to before after) h k =
      let same : h.answers.count ≡ k.answers.count = h.answers.tells.count_is ∙ sym k.answers.tells.count_is in
      h.answers.is ∙ ap (λ (n : ℕ). told 10 n 0) same ∙ sym k.answers.is
  one_answer (WhoCall name from to before after) h k =
      let same : h.answers.count ≡ k.answers.count = h.answers.tells.count_is ∙ sym k.answers.tells.count_is in
      h.answers.is ∙ ap (λ (n : ℕ). told 10 n 0) same ∙ sym k.answers.is
  one_answer (PathCall name ended before after) h k =
      h.answers.is ∙ ap way_answer (one_way c name before after h.answers.count k.answers.count
      (h.answers.ended_is ∙ sym k.answers.ended_is)
      h.answers.tells k.answers.tells) ∙ sym k.answers.is
  one_answer (AskCall q) h k = ask_one q h.answers k.answers
  one_answer (MarkingsCall count) h k = h.answers ∙ sym k.answers
  one_answer (GiveBackCall granted) h k = none_one (given_back granted) h k
  one_answer (ShrinkCall granted) h k = h.tells ∙ sym k.tells
  one_answer NoStepCall h k = none_else h k
  one_answer FreeCall h k = absurd h
