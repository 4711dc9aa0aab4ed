-- A list of calls on a heap, as a run of the graph.
use Rattle.std.specs.Prelude.{◌≡◌, ◌⊎◌, ◌++◌, ◌+◌, ◌-◌, ◌≤◌, ℕ, zero, suc, All, List, [], ◌∷◌, Some, None, length, map, slice_index}
use Rattle.heap_words.specs.declared.config.Config.{Config}
use Rattle.heap_steps.specs.Actors.{IsOp, IsStep, step_in}
use Rattle.heap_steps.specs.declared.step.Event.{Event}
use Rattle.heap_steps.specs.declared.step.Op.{Op}
use Rattle.heap_steps.specs.declared.step.Refusal.{Refusal}
use Rattle.heap_steps.specs.declared.step.Register.{Register}
use Rattle.heap_steps.specs.declared.step.Reply.{Reply}
use Rattle.heap_steps.specs.declared.step.Reply.TheVariants as replies
use Rattle.heap_steps.specs.declared.step.Step.{Step}
use Rattle.heap_steps.specs.declared.step.Step.TheVariants as steps
use Rattle.graph_runs.specs.Run.{IsRun}
use Rattle.graph_runs.specs.State.{State, first_state}
use Rattle.step_core.specs.Passages.{actor_in, actor_of}
use Rattle.step_core.specs.Rows.{IsDone}
use Rattle.step_core.specs.Stands.{CoreState, Stands}
use Rattle.step_core.specs.Words.{reading, writing}
use Rattle.collection.specs.Steps.{IsCollectors}
use Rattle.heap_calls.specs.Filled.{AreFields, making, pointing, wording}
use Rattle.heap_calls.specs.Loads.{loading, word_or_name}
use Rattle.heap_calls.specs.Loads as loads
use Rattle.heap_calls.specs.Rows.{AreSteps, Many, count_of, last_step, step_of}
use Rattle.heap_calls.specs.Numbers.{no_step, numbers, refused, register, told}
use Rattle.heap_calls.specs.Steps.{HasRegister, IsNumber, given_back}
use Rattle.heap_calls.specs.Walks.{Finds, Walks}
use Rattle.heap_calls.specs.Ways.{FindsWay}
use Rattle.heap_calls.specs.declared.answer.Answer.{Answer}
use Rattle.g1heap_c.specs.Calls.{Call, Called, AreCalls, IsAnswerTo, IsCallOn, telling}
use Rattle.g1heap_c.specs.Calls.{NewCall, StepCall, NewFilledCall, MakeCall, MakeFilledCall, CollectCall, CollectAllCall, ReadWordsCall}
use Rattle.g1heap_c.specs.Calls.{GetWordCall, ManyCall, WriteWordsCall, WalkCall, WhoCall, AskCall, GiveBackCall, ShrinkCall, NoStepCall}
use Rattle.g1heap_c.specs.Calls.{FreeCall, MarkingsCall, PathCall}
use Rattle.g1heap_c.specs.Policies.{asked, nil_steps, nilling}

-- the event of a step with a reply, taken by whose step it is
abbrev pub event_of : Step → Reply → Event
event_of step reply = record { actor = actor_of step; step = step; reply = reply }

-- the events of some steps one after another, each with a reply
pub record AreEventsOf (taken : List Step) (es : List Event) : Type 0 where
  pub steps : map step_in es ≡ taken
  pub actors : map actor_in es ≡ map actor_of taken

-- the first so many of some steps
abbrev pub first_steps : (ℕ → Step) → ℕ → List Step
first_steps step zero = []
first_steps step (suc n) = first_steps step n ++ step n ∷ []

-- the steps that fill an object that a mutator's register holds, if one was made: pointers, and then data words
abbrev pub filling : Reply → ℕ → ℕ → List ℕ → List ℕ → List Step
filling (replies.Named (Some name)) m to from words =
    first_steps (pointing m to from) (length from) ++ first_steps (wording m to words) (length words)
filling _ m to from words = []

-- the events that read words one after another, from a data word on, and those that write them
abbrev pub reads_of : ℕ → Register → ℕ → List ℕ → List Event
reads_of m object from [] = []
reads_of m object from (w ∷ ws) = event_of (reading m object from) (replies.Word w) ∷ reads_of m object (suc from) ws

abbrev pub writes_of : ℕ → Register → ℕ → List ℕ → List Event
writes_of m object from [] = []
writes_of m object from (w ∷ ws) = event_of (writing m object from w) replies.Done ∷ writes_of m object (suc from) ws

-- the step that reads the last of so many data words from one on, and the one that writes it
abbrev pub last_read : ℕ → Register → ℕ → ℕ → Step
last_read m object from count = reading m object (from + (count - 1))

abbrev pub last_write : ℕ → Register → ℕ → List ℕ → Step
last_write m object from words = writing m object (from + (length words - 1)) (slice_index words (length words - 1))

-- a refused step leaves the heap as it was
abbrev pub KeepsIfRefused : Reply → CoreState → CoreState → Type 0
KeepsIfRefused reply c c' = (why : Refusal) → reply ≡ replies.Refused why → c' ≡ c

-- no event: the answer is this one, and the heap is as it was
pub record HasNoEvent (c : CoreState) (es : List Event) (code : Answer) (answer : Answer) (c' : CoreState) : Type 0 where
  pub events : es ≡ []
  pub tells : answer ≡ code
  pub same : c' ≡ c

-- the event of the step, whose reply the answer tells
pub record HasStep (c : CoreState) (es : List Event) (step : Step) (answer : Answer) (c' : CoreState) : Type 0 where
  pub reply : Reply
  pub events : es ≡ event_of step reply ∷ []
  pub tells : answer ≡ telling step c c' reply
  pub kept : KeepsIfRefused reply c c'

-- the step that makes an object, whose reply the answer tells, and if it was made the steps that fill it
pub record HasFilling (c : CoreState) (es : List Event) (m to : ℕ) (from words : List ℕ) (answer : Answer) (c' : CoreState) : Type 0 where
  pub reply : Reply
  pub fills : List Event
  pub events : es ≡ event_of (making m to from words) reply ∷ fills
  pub filled : AreEventsOf (filling reply m to from words) fills
  pub tells : answer ≡ numbers reply
  pub kept : KeepsIfRefused reply c c'

-- the step that makes the register nil that was to take an object, where that was refused as Full and the number is set
abbrev pub nils_of : ℕ → Reply → ℕ → ℕ → List Step
nils_of number reply m to = first_steps (nilling m to) (nil_steps number reply)

-- steps of the collector, and after them the one that makes the object, whose reply the answer tells; and the one that makes its register
-- nil, or none
pub record HasMaking (es : List Event) (number to : ℕ) (op : Op) (answer : Answer) : Type 0 where
  pub reply : Reply
  pub before : List Event
  pub nils : List Event
  pub collectors : All IsCollectors before
  pub events : es ≡ before ++ event_of (steps.Mutator op) reply ∷ nils
  pub nilled : AreEventsOf (nils_of number reply op.mutator to) nils
  pub tells : answer ≡ numbers reply

-- the same, and if the object was made the steps that fill it
pub record HasMakingAndFilling (es : List Event) (number m to : ℕ) (from words : List ℕ) (answer : Answer) : Type 0 where
  pub reply : Reply
  pub before : List Event
  pub fills : List Event
  pub collectors : All IsCollectors before
  pub events : es ≡ before ++ event_of (steps.Mutator (asked m to (length from) 0 (length words))) reply ∷ fills
  pub filled : AreEventsOf (filling reply m to from words ++ nils_of number reply m to) fills
  pub tells : answer ≡ numbers reply

-- steps of the collector alone, after which this is answered
pub record HasCollected (es : List Event) (code : Answer) (answer : Answer) : Type 0 where
  pub collectors : All IsCollectors es
  pub tells : answer ≡ code

-- where an object was loaded, the step that reads its data word, of which the answer tells; else none, and it tells of the load
abbrev pub IsReadLoaded : Reply → List Event → ℕ → ℕ → ℕ → Answer → Type 0
IsReadLoaded (replies.Named (Some name)) es m to word answer =
    (reply : Reply) × (es ≡ event_of (loads.reading m to word) reply ∷ []) × (answer ≡ word_or_name name reply)
IsReadLoaded reply es m to word answer = (es ≡ []) × (answer ≡ numbers reply)

-- the step that loads a pointer, and after it that of the word; a refused load leaves the heap as it was
pub record HasLoaded (c : CoreState) (es : List Event) (m to object field word : ℕ) (answer : Answer) (c' : CoreState) : Type 0 where
  pub reply : Reply
  pub reads : List Event
  pub events : es ≡ event_of (loading m to object field) reply ∷ reads
  pub read : IsReadLoaded reply reads m to word answer
  pub kept : KeepsIfRefused reply c c'

-- one step, refused as the answer tells; the heap is as it was
pub record HasRefused (c : CoreState) (es : List Event) (step : Step) (answer : Answer) (c' : CoreState) : Type 0 where
  pub why : Refusal
  pub events : es ≡ event_of step (replies.Refused why) ∷ []
  pub tells : answer ≡ refused why
  pub same : c' ≡ c

-- a reply of an event is no refusal
abbrev pub HasDone : Event → Type 0
HasDone e = IsDone e.reply

-- the steps for all fields, one after another, all done
pub record HasMany (es : List Event) (many : Many) (answer : Answer) : Type 0 where
  pub events : AreEventsOf (first_steps (step_of many) (count_of many)) es
  pub done : All HasDone es
  pub tells : answer ≡ told 0 0 0

-- a step for each word: the buffer takes what they read, as many words as it has; the heap is as it was
pub record HasRead (c : CoreState) (es : List Event) (m object from : ℕ) (before after : List ℕ) (answer : Answer) (c' : CoreState)
    : Type 0 where
  pub events : es ≡ reads_of m (register object) from after
  pub count : length after ≡ length before
  pub tells : answer ≡ told 0 0 0
  pub same : c' ≡ c

-- the step for the last word alone, refused; the buffer is as it was
pub record HasNotRead (c : CoreState) (es : List Event) (m object from : ℕ) (before after : List ℕ) (answer : Answer) (c' : CoreState)
    : Type 0 where
  pub refused : HasRefused c es (last_read m (register object) from (length before)) answer c'
  pub buffer : after ≡ before

-- a step for each word, all done
pub record HasWritten (es : List Event) (m object from : ℕ) (words : List ℕ) (answer : Answer) : Type 0 where
  pub events : es ≡ writes_of m (register object) from words
  pub tells : answer ≡ told 0 0 0

-- no event: the answer tells of the heap what is asked, and the heap is as it was
pub record HasAsked (c : CoreState) (es : List Event) (tells : CoreState → Answer → Type 0) (answer : Answer) (c' : CoreState)
    : Type 0 where
  pub events : es ≡ []
  pub answers : tells c answer
  pub same : c' ≡ c

-- if a fact holds this, else that
abbrev pub IfElse : Type 0 → Type 0 → Type 0 → Type 0
IfElse P A B = (P × A) ⊎ ((P → ⊥) × B)

-- Which events a call on a heap has, and what its answer tells of them: none if its numbers name no step of the heap. Where there is a heap
-- none is made, and after one is freed there is none
abbrev pub HasEvents : CoreState → List Event → Call → Answer → CoreState → Type 0
HasEvents c es (NewCall config) answer c' = HasNoEvent c es (told 34 0 0) answer c'
HasEvents c es (StepCall step) answer c' = IfElse (IsStep c.config step) (HasStep c es step answer c') (HasNoEvent c es no_step answer c')
HasEvents c es (NewFilledCall m to from words) answer c' =
    IfElse (AreFields c.config m to from words) (HasFilling c es m to from words answer c') (HasNoEvent c es no_step answer c')
HasEvents c es (MakeCall number m to pointers weaks values) answer c' =
    IfElse (IsOp c.config (asked m to pointers weaks values)) (HasMaking es number to (asked m to pointers weaks values) answer)
    (HasNoEvent c es no_step answer c')
HasEvents c es (MakeFilledCall number m to from words) answer c' =
    IfElse (AreFields c.config m to from words) (HasMakingAndFilling es number m to from words answer) (HasNoEvent c es no_step answer c')
HasEvents c es CollectCall answer c' = HasCollected es (told 0 0 0) answer
HasEvents c es CollectAllCall answer c' = HasCollected es (told 0 0 0) answer
HasEvents c es (GetWordCall m to object field word) answer c' =
    IfElse (IsStep c.config (loading m to object field)) (HasLoaded c es m to object field word answer c')
    (HasNoEvent c es no_step answer c')
HasEvents c es (ManyCall many) answer c' =
    IfElse (AreSteps c.config many) (HasMany es many answer ⊎ HasRefused c es (last_step many) answer c')
    (HasNoEvent c es no_step answer c')
HasEvents c es (ReadWordsCall m object from before after) answer c' =
    IfElse (HasRegister c m object)
    (HasRead c es m object from before after answer c' ⊎ HasNotRead c es m object from before after answer c')
    (HasNoEvent c es no_step answer c' × (after ≡ before))
HasEvents c es (WriteWordsCall m object from words) answer c' =
    IfElse (HasRegister c m object)
    (HasWritten es m object from words answer ⊎ HasRefused c es (last_write m (register object) from words) answer c')
    (HasNoEvent c es no_step answer c')
HasEvents c es (WalkCall from to before after) answer c' = HasAsked c es (Walks from to before after) answer c'
HasEvents c es (WhoCall name from to before after) answer c' = HasAsked c es (Finds name from to before after) answer c'
HasEvents c es (PathCall name ended before after) answer c' = HasAsked c es (FindsWay name ended before after) answer c'
HasEvents c es (AskCall question) answer c' = HasAsked c es (IsAnswerTo question) answer c'
HasEvents c es (MarkingsCall count) answer c' = HasAsked c es (IsNumber (λ d. count)) answer c'
HasEvents c es (GiveBackCall granted) answer c' = HasNoEvent c es (given_back granted) answer c'
HasEvents c es (ShrinkCall granted) answer c' = HasCollected es (given_back granted) answer
HasEvents c es NoStepCall answer c' = HasNoEvent c es no_step answer c'
HasEvents c es FreeCall answer c' = ⊥

-- a call's events are a run of the graph, from a state that the heap stands for before it to one that it stands for after it
pub record CallRuns (s : State) (c : CoreState) (es : List Event) (x : Called) (s' : State) : Type 0 where
  pub before : Stands s c
  pub run : IsRun s es s'
  pub after : Stands s' x.after
  pub has : HasEvents c es x.call x.answer x.after

-- the same of calls one after another, each with events of its own
abbrev pub CallsRun : State → CoreState → List Event → List Called → State → Type 0
CallsRun s c es [] s' = (es ≡ []) × (s' ≡ s)
CallsRun s c es (x ∷ xs) s' = (mid : State) × (first : List Event) × (rest : List Event)
    × (es ≡ first ++ rest) × CallRuns s c first x mid × CallsRun mid x.after rest xs s'

-- calls on a heap have events, one after another, that are a run of the graph from a state on
pub record AreRun (s : State) (c : CoreState) (calls : List Called) : Type 0 where
  pub events : List Event
  pub last : State
  pub run : IsRun s events last
  pub each : CallsRun s c events calls last

-- a heap is made, and calls on it, one after another, are a run from the state with no objects on
abbrev pub NewHeapRuns : Config → Answer → CoreState → List Called → Type 0
NewHeapRuns config answer c calls = (n : ℕ) → IsCallOn None n (NewCall config) answer (Some c) 0 → AreCalls c 0 calls
    → AreRun (first_state config) c calls

-- a call's answer is fixed by its events, and by the heap before and after it
abbrev pub HasOneAnswer : CoreState → List Event → Call → CoreState → Type 0
HasOneAnswer c es call c' = (answer other : Answer) → HasEvents c es call answer c' → HasEvents c es call other c' → answer ≡ other

-- a step's event is fixed by its answer, whatever the heap
abbrev pub HasOneEvent : Step → Answer → Type 0
HasOneEvent step answer = (c c' d d' : CoreState) (es other : List Event)
    → HasEvents c es (StepCall step) answer c' → HasEvents d other (StepCall step) answer d' → es ≡ other

-- the codes of calls on a heap: of what is done, of what is refused, that there is no such step, that there is a heap already, and that
-- memory was refused
abbrev pub IsCode : ℕ → Type 0
IsCode n = (n ≤ 10) ⊎ (((16 ≤ n) × (n ≤ 22)) ⊎ ((n ≡ 32) ⊎ ((n ≡ 34) ⊎ (n ≡ 45))))

-- a call's answer has such a code
abbrev pub HasCode : Called → Type 0
HasCode x = IsCode x.answer.code
