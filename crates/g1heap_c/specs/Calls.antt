-- Calls on a heap, and what is proved of each.
use Rattle.std.specs.Prelude.{◌≡◌, ◌==◌, ℕ, ⊤, Bool, List, [], ◌∷◌, length, Option, Some, None, if◌then◌else◌}
use Rattle.heap_words.specs.Configs.{globals_of, registers_of}
use Rattle.heap_words.specs.declared.config.Config.{Config}
use Rattle.regions.specs.Table.{free_count}
use Rattle.heap_steps.specs.declared.step.CollectorStep.TheVariants as collector
use Rattle.heap_steps.specs.declared.step.Reply.{Reply}
use Rattle.heap_steps.specs.declared.step.Step.{Step}
use Rattle.heap_steps.specs.declared.step.Step.TheVariants as steps
use Rattle.step_core.specs.Measures.{used_words, live_words, HasGrey, HasSlotsLeft}
use Rattle.step_core.specs.Stands.{CoreState}
use Rattle.collection.specs.Markings.{CountsMarking, one_more}
use Rattle.heap_calls.specs.Filled.{MakesFilled}
use Rattle.heap_calls.specs.Loads.{GetsWord}
use Rattle.heap_calls.specs.Rows.{DoesMany, Many}
use Rattle.heap_calls.specs.Numbers.{told}
use Rattle.heap_calls.specs.Steps.{GivesBack, IsMarking, IsName, IsNumber, IsFreeRun, IsSign, MakesHeap, TakesStep, TakesNone, Tells}
use Rattle.heap_calls.specs.Steps.{plain, scanned}
use Rattle.heap_calls.specs.Walks.{FindsOn, WalksOn}
use Rattle.heap_calls.specs.Ways.{FindsWayOn}
use Rattle.heap_calls.specs.Words.{ReadsWords, WritesWords}
use Rattle.heap_calls.specs.declared.answer.Answer.{Answer}
use Rattle.heap_calls.specs.declared.heap.Heap.{Heap}
use Rattle.heap_walk.specs.declared.objects.Entry.{Entry}
use Rattle.heap_walk.specs.declared.holders.Holder.{Holder}
use Rattle.g1heap_c.specs.MadeFilled.{AsksFilled}
use Rattle.g1heap_c.specs.Policies.{AsksFor, CollectsAll, CollectsDue, Shrinks, asked}

-- What is asked of a heap: how many regions are free, and how many of them side by side; how many words are handed out, and how many are
-- live; whether marking runs, whether it has more to scan, and whether weak slots wait to be cleared; how many cards are queued; how many
-- globals there are, and how many registers a mutator has; which name a mutator's register holds
pub data Question : Type 0 where
  FreeRegions : Question
  FreeRun : Question
  UsedWords : Question
  LiveWords : Question
  Marking : Question
  Grey : Question
  Clearing : Question
  Queued : Question
  Globals : Question
  Registers : Question
  Name : (m r : ℕ) → Question

-- Which call it is, with its numbers. A heap is made; it takes a step; it makes an object and fills it; it makes an object by the policy,
-- which has this `nil_on_full`, and makes one by the policy and fills it; the steps of the collector that are due; a whole collection; a
-- pointer is loaded, with a data word of what it leads to; several fields are loaded or stored; data words are read from one on, with what
-- the buffer holds before and after, and are written; objects are told from a cursor on, with the buffer, and so is who names one; a way
-- from a root to one is searched for, and the search ends or spends the buffer's room; something is asked, or how many markings ended,
-- which are so many; memory is given back, and what that asks for meanwhile is granted or not; the same after a whole collection and
-- compactions; the numbers name no step of any heap; it is freed
pub data Call : Type 0 where
  NewCall : (config : Config) → Call
  StepCall : (step : Step) → Call
  NewFilledCall : (m to : ℕ) (from words : List ℕ) → Call
  MakeCall : (nil_on_full m to pointers weaks values : ℕ) → Call
  MakeFilledCall : (nil_on_full m to : ℕ) (from words : List ℕ) → Call
  CollectCall : Call
  CollectAllCall : Call
  GetWordCall : (m to object field word : ℕ) → Call
  ManyCall : (many : Many) → Call
  ReadWordsCall : (m object from : ℕ) (before after : List ℕ) → Call
  WriteWordsCall : (m object from : ℕ) (words : List ℕ) → Call
  WalkCall : (from to : ℕ) (before after : List Entry) → Call
  WhoCall : (name from to : ℕ) (before after : List Holder) → Call
  PathCall : (name : ℕ) (ended : Bool) (before after : List Holder) → Call
  AskCall : (question : Question) → Call
  MarkingsCall : (count : ℕ) → Call
  GiveBackCall : (granted : Bool) → Call
  ShrinkCall : (granted : Bool) → Call
  NoStepCall : Call
  FreeCall : Call

-- how a step's reply is told: of a mark that is done, by how many objects it scanned
abbrev pub telling : Step → CoreState → CoreState → Reply → Answer
telling (steps.Collector (collector.Mark k)) = scanned
telling _ = plain

-- the answer tells of a core what the question asks
abbrev pub IsAnswerTo : Question → CoreState → Answer → Type 0
IsAnswerTo FreeRegions = IsNumber (λ c. free_count c.table)
IsAnswerTo FreeRun = IsFreeRun
IsAnswerTo UsedWords = IsNumber used_words
IsAnswerTo LiveWords = IsNumber live_words
IsAnswerTo Marking = IsSign IsMarking
IsAnswerTo Grey = IsSign HasGrey
IsAnswerTo Clearing = IsSign HasSlotsLeft
IsAnswerTo Queued = IsNumber (λ c. length c.cards.queue)
IsAnswerTo Globals = IsNumber (λ c. globals_of c.config)
IsAnswerTo Registers = IsNumber (λ c. registers_of c.config)
IsAnswerTo (Name m r) = IsName m r

-- how many markings of a heap ended, after a step with this answer: a remark that was done, which answers MARKED, is one more
abbrev pub ended_after : Step → Answer → ℕ → ℕ
ended_after (steps.Collector collector.Remark) answer n = if answer.code == 5 then one_more n else n
ended_after _ answer n = n

-- after one was made, or none; and after it is freed, if there is one
abbrev pub ended_made : Answer → ℕ → ℕ
ended_made answer n = if answer.code == 0 then 0 else n

abbrev pub ended_freed : Option CoreState → ℕ → ℕ
ended_freed None n = n
ended_freed (Some c) n = 0

-- What is proved of a call, by its answer, and by the heap before and after it, which may be none, and how many of its markings ended. What
-- `g1_new` answers is the code; `g1_free` answers nothing, which counts as done
abbrev pub IsCallOn : Option CoreState → ℕ → Call → Answer → Option CoreState → ℕ → Type 0
IsCallOn heap n (NewCall config) answer after n' =
    ((answer ≡ told answer.code 0 0) × MakesHeap heap config answer.code after) × (n' ≡ ended_made answer n)
IsCallOn heap n (StepCall step) answer after n' = TakesStep (telling step) heap step answer after × (n' ≡ ended_after step answer n)
IsCallOn heap n (NewFilledCall m to from words) answer after n' = MakesFilled heap m to from words answer after × (n' ≡ n)
IsCallOn heap n (MakeCall number m to pointers weaks values) answer after n' =
    AsksFor CountsMarking number to heap n (asked m to pointers weaks values) answer after n'
IsCallOn heap n (MakeFilledCall number m to from words) answer after n' =
    AsksFilled CountsMarking number heap n m to from words answer after n'
IsCallOn heap n CollectCall answer after n' = CollectsDue CountsMarking heap n answer after n'
IsCallOn heap n CollectAllCall answer after n' = CollectsAll CountsMarking heap n answer after n'
IsCallOn heap n (GetWordCall m to object field word) answer after n' = GetsWord heap m to object field word answer after × (n' ≡ n)
IsCallOn heap n (ManyCall many) answer after n' = DoesMany heap many answer after × (n' ≡ n)
IsCallOn heap n (ReadWordsCall m object from before out) answer after n' = ReadsWords heap m object from before out answer after × (n' ≡ n)
IsCallOn heap n (WriteWordsCall m object from words) answer after n' = WritesWords heap m object from words answer after × (n' ≡ n)
IsCallOn heap n (WalkCall from to before out) answer after n' = WalksOn heap from to before out answer after × (n' ≡ n)
IsCallOn heap n (WhoCall name from to before out) answer after n' = FindsOn heap name from to before out answer after × (n' ≡ n)
IsCallOn heap n (PathCall name ended before out) answer after n' = FindsWayOn heap name ended before out answer after × (n' ≡ n)
IsCallOn heap n (AskCall question) answer after n' = Tells (IsAnswerTo question) heap answer after × (n' ≡ n)
IsCallOn heap n (MarkingsCall count) answer after n' = Tells (IsNumber (λ c. count)) heap answer after × ((count ≡ n) × (n' ≡ n))
IsCallOn heap n (GiveBackCall granted) answer after n' = GivesBack granted heap answer after × (n' ≡ n)
IsCallOn heap n (ShrinkCall granted) answer after n' = Shrinks CountsMarking granted heap n answer after n'
IsCallOn heap n NoStepCall answer after n' = TakesNone heap answer after × (n' ≡ n)
IsCallOn heap n FreeCall answer after n' = ((answer ≡ told 0 0 0) × (after ≡ None)) × (n' ≡ ended_freed heap n)

-- the same of a heap as C keeps it: each function that takes a heap has this of its call as its contract
abbrev pub IsCall : Heap → Call → Answer → Heap → Type 0
IsCall heap call answer after = IsCallOn heap.handle.core heap.markings call answer after.handle.core after.markings

-- a call that was made, with its answer, and the heap after it with how many of its markings ended
pub record Called : Type 0 where
  pub call : Call
  pub answer : Answer
  pub after : CoreState
  pub markings : ℕ

-- calls one after another on a heap, which is there after each
abbrev pub AreCalls : CoreState → ℕ → List Called → Type 0
AreCalls c n [] = ⊤
AreCalls c n (x ∷ xs) = IsCallOn (Some c) n x.call x.answer (Some x.after) x.markings × AreCalls x.after x.markings xs
