-- Steps by their forms: a verb, and numbers for the words after it; and which replies a verb of the collector has.
use Rattle.std.specs.Prelude.{◌≡◌, ℕ, zero, suc, ◌^◌, ◌%◌, List, [], ◌∷◌, Option, Some, None, Bool, true, false, codes, get_or}
use Rattle.std.specs.List.{position_or_len}
use Rattle.std.specs.Str.{bytes_eq}
use Rattle.heap_steps.specs.declared.form.DoneReply.{DoneReply}
use Rattle.heap_steps.specs.declared.form.DoneReply.TheVariants as dones
use Rattle.heap_steps.specs.declared.form.Replies.{Replies}
use Rattle.heap_steps.specs.declared.form.Operand.{Operand}
use Rattle.heap_steps.specs.declared.form.Operand.TheVariants.{Register, Global, Value, Small, Byte, Large}
use Rattle.heap_steps.specs.declared.form.ActionVerb.{ActionVerb}
use Rattle.heap_steps.specs.declared.form.ActionVerb.TheVariants as verbs
use Rattle.heap_steps.specs.declared.form.CollectionVerb.{CollectionVerb}
use Rattle.heap_steps.specs.declared.form.CollectionVerb.TheVariants as collections
use Rattle.heap_steps.specs.declared.step.Register as registers
use Rattle.heap_steps.specs.declared.step.Action.{Action}
use Rattle.heap_steps.specs.declared.step.Action.TheVariants as actions
use Rattle.heap_steps.specs.declared.step.CollectorStep.{CollectorStep}
use Rattle.heap_steps.specs.declared.step.CollectorStep.TheVariants as collector
use Rattle.heap_steps.specs.declared.step.Refusal.{Refusal}
use Rattle.heap_steps.specs.declared.step.Refusal.TheVariants as refusals
use Rattle.heap_steps.specs.declared.step.Reply.{Reply}
use Rattle.heap_steps.specs.declared.step.Reply.TheVariants as replies

-- a verb's row of the table: its word, what is after it, and whether the third format alone has it
pub record Row : Type 0 where
  pub word : List ℕ
  pub operands : List Operand
  pub third : Bool

-- a row of every format, and one of the third alone
abbrev every : List ℕ → List Operand → Row
every word operands = record { word = word; operands = operands; third = false }

abbrev third : List ℕ → List Operand → Row
third word operands = record { word = word; operands = operands; third = true }

-- the verbs of mutators
abbrev pub action_row : ActionVerb → Row
action_row verbs.New = every (codes "new") (Register ∷ Small ∷ Small ∷ [])
action_row verbs.NewWeak = every (codes "newweak") (Register ∷ Small ∷ Byte ∷ Small ∷ [])
action_row verbs.Get = every (codes "get") (Register ∷ Register ∷ Small ∷ [])
action_row verbs.GetWeak = every (codes "getweak") (Register ∷ Register ∷ Small ∷ [])
action_row verbs.Put = every (codes "put") (Register ∷ Small ∷ Value ∷ [])
action_row verbs.PutWeak = every (codes "putweak") (Register ∷ Small ∷ Value ∷ [])
action_row verbs.Read = every (codes "read") (Register ∷ Small ∷ [])
action_row verbs.Write = every (codes "write") (Register ∷ Small ∷ Large ∷ [])
action_row verbs.Move = every (codes "move") (Register ∷ Register ∷ [])
action_row verbs.Drop = every (codes "drop") (Register ∷ [])
action_row verbs.Load = every (codes "load") (Register ∷ Global ∷ [])
action_row verbs.Save = every (codes "save") (Global ∷ Register ∷ [])
action_row verbs.Scope = third (codes "scope") (Register ∷ [])
action_row verbs.Shape = every (codes "shape") (Register ∷ [])
action_row verbs.Weaks = every (codes "weaks") (Register ∷ [])

-- the verbs of the collector
abbrev pub collection_row : CollectionVerb → Row
collection_row collections.Begin = every (codes "begin") []
collection_row collections.Mark = every (codes "mark") (Small ∷ [])
collection_row collections.Remark = every (codes "remark") []
collection_row collections.Cleanup = every (codes "cleanup") []
collection_row collections.Refine = every (codes "refine") (Small ∷ [])
collection_row collections.Pause = every (codes "pause") (Small ∷ [])
collection_row collections.Compact = third (codes "compact") (Small ∷ [])
collection_row collections.PauseWithin = third (codes "pausewithin") (Small ∷ Small ∷ [])
collection_row collections.Young = third (codes "young") (Small ∷ Small ∷ [])
collection_row collections.Clear = third (codes "clear") (Small ∷ [])

-- the replies of each: what it replies where it is done, and what it may be refused for
abbrev replies_by : DoneReply → Option Refusal → Replies
replies_by done refused = record { done = done; refused = refused }

abbrev pub collection_replies : CollectionVerb → Replies
collection_replies collections.Begin = replies_by dones.Ok (Some refusals.MarkRunning)
collection_replies collections.Mark = replies_by dones.Ok (Some refusals.NotMarking)
collection_replies collections.Remark = replies_by dones.Marked (Some refusals.NotMarking)
collection_replies collections.Cleanup = replies_by dones.Reclaimed (Some refusals.MarkRunning)
collection_replies collections.Refine = replies_by dones.Refined None
collection_replies collections.Pause = replies_by dones.Moved None
collection_replies collections.Compact = replies_by dones.Moved None
collection_replies collections.PauseWithin = replies_by dones.Moved None
collection_replies collections.Young = replies_by dones.Moved None
collection_replies collections.Clear = replies_by dones.Ok None

-- the number of a refusal
abbrev pub refusal_number : Refusal → ℕ
refusal_number refusals.Nil = 1
refusal_number refusals.NoField = 2
refusal_number refusals.Full = 3
refusal_number refusals.TooBig = 4
refusal_number refusals.NamesSpent = 5
refusal_number refusals.MarkRunning = 6
refusal_number refusals.NotMarking = 7

-- the reply tells so what was done
abbrev pub IsDone : DoneReply → Reply → Type 0
IsDone dones.Ok replies.Done = Unit {0}
IsDone dones.Marked (replies.Marked n) = Unit {0}
IsDone dones.Reclaimed (replies.Reclaimed n) = Unit {0}
IsDone dones.Refined (replies.Refined n) = Unit {0}
IsDone dones.Moved (replies.Moved n w) = Unit {0}
IsDone _ _ = ⊥

-- the reply is one of these
abbrev pub IsAmong : Replies → Reply → Type 0
IsAmong rs (replies.Refused why) = rs.refused ≡ Some why
IsAmong rs reply = IsDone rs.done reply

-- all verbs, in the order in which hints list them
abbrev pub action_verbs : List ActionVerb
action_verbs = verbs.New ∷ verbs.NewWeak ∷ verbs.Get ∷ verbs.GetWeak ∷ verbs.Put ∷ verbs.PutWeak ∷ verbs.Read ∷ verbs.Write ∷ verbs.Move
    ∷ verbs.Drop ∷ verbs.Load ∷ verbs.Save ∷ verbs.Scope ∷ verbs.Shape ∷ verbs.Weaks ∷ []

abbrev pub collection_verbs : List CollectionVerb
collection_verbs = collections.Begin ∷ collections.Mark ∷ collections.Remark ∷ collections.Cleanup ∷ collections.Refine
    ∷ collections.Pause ∷ collections.Compact ∷ collections.PauseWithin ∷ collections.Young ∷ collections.Clear ∷ []

-- the place of a verb among those of the collector, which its word tells
abbrev pub collection_place : CollectionVerb → ℕ
collection_place v = position_or_len (λ u. bytes_eq (collection_row u).word (collection_row v).word) collection_verbs

-- the number of a value, and the value of a number: 0 is nil, and registers count from 1
abbrev pub value_number : Option registers.Register → ℕ
value_number None = 0
value_number (Some r) = suc r.number

abbrev pub numbered_value : ℕ → Option registers.Register
numbered_value zero = None
numbered_value (suc n) = Some (record { number = n })

-- an action's verb, and its numbers
abbrev pub action_verb : Action → ActionVerb
action_verb (actions.New to counts) = verbs.New
action_verb (actions.Get to object i) = verbs.Get
action_verb (actions.Put object i value) = verbs.Put
action_verb (actions.Read object j) = verbs.Read
action_verb (actions.Write object j value) = verbs.Write
action_verb (actions.Move to from) = verbs.Move
action_verb (actions.Drop register) = verbs.Drop
action_verb (actions.Load to from) = verbs.Load
action_verb (actions.Save to from) = verbs.Save
action_verb (actions.Shape object) = verbs.Shape
action_verb (actions.NewWeak to counts weaks) = verbs.NewWeak
action_verb (actions.GetWeak to object i) = verbs.GetWeak
action_verb (actions.PutWeak object i value) = verbs.PutWeak
action_verb (actions.Weaks object) = verbs.Weaks
action_verb (actions.Scope from) = verbs.Scope

abbrev pub action_numbers : Action → List ℕ
action_numbers (actions.New to counts) = to.number ∷ counts.pointers ∷ counts.values ∷ []
action_numbers (actions.Get to object i) = to.number ∷ object.number ∷ i ∷ []
action_numbers (actions.Put object i value) = object.number ∷ i ∷ value_number value ∷ []
action_numbers (actions.Read object j) = object.number ∷ j ∷ []
action_numbers (actions.Write object j value) = object.number ∷ j ∷ value ∷ []
action_numbers (actions.Move to from) = to.number ∷ from.number ∷ []
action_numbers (actions.Drop register) = register.number ∷ []
action_numbers (actions.Load to from) = to.number ∷ from.number ∷ []
action_numbers (actions.Save to from) = to.number ∷ from.number ∷ []
action_numbers (actions.Shape object) = object.number ∷ []
action_numbers (actions.NewWeak to counts weaks) = to.number ∷ counts.pointers ∷ weaks ∷ counts.values ∷ []
action_numbers (actions.GetWeak to object i) = to.number ∷ object.number ∷ i ∷ []
action_numbers (actions.PutWeak object i value) = object.number ∷ i ∷ value_number value ∷ []
action_numbers (actions.Weaks object) = object.number ∷ []
action_numbers (actions.Scope from) = from.number ∷ []

-- the action of a verb and its numbers, which are counted from 0
abbrev pub action_by : ActionVerb → (ℕ → ℕ) → Action
action_by verbs.New n = actions.New (record { number = n 0 }) (record { pointers = n 1; values = n 2 })
action_by verbs.NewWeak n = actions.NewWeak (record { number = n 0 }) (record { pointers = n 1; values = n 3 }) (n 2)
action_by verbs.Get n = actions.Get (record { number = n 0 }) (record { number = n 1 }) (n 2)
action_by verbs.GetWeak n = actions.GetWeak (record { number = n 0 }) (record { number = n 1 }) (n 2)
action_by verbs.Put n = actions.Put (record { number = n 0 }) (n 1) (numbered_value (n 2))
action_by verbs.PutWeak n = actions.PutWeak (record { number = n 0 }) (n 1) (numbered_value (n 2))
action_by verbs.Read n = actions.Read (record { number = n 0 }) (n 1)
action_by verbs.Write n = actions.Write (record { number = n 0 }) (n 1) (n 2)
action_by verbs.Move n = actions.Move (record { number = n 0 }) (record { number = n 1 })
action_by verbs.Drop n = actions.Drop (record { number = n 0 })
action_by verbs.Load n = actions.Load (record { number = n 0 }) (record { number = n 1 })
action_by verbs.Save n = actions.Save (record { number = n 0 }) (record { number = n 1 })
action_by verbs.Scope n = actions.Scope (record { number = n 0 })
action_by verbs.Shape n = actions.Shape (record { number = n 0 })
action_by verbs.Weaks n = actions.Weaks (record { number = n 0 })

-- the same of the collector's steps
abbrev pub collection_verb : CollectorStep → CollectionVerb
collection_verb collector.Begin = collections.Begin
collection_verb (collector.Mark k) = collections.Mark
collection_verb collector.Remark = collections.Remark
collection_verb collector.Cleanup = collections.Cleanup
collection_verb (collector.Refine k) = collections.Refine
collection_verb (collector.Pause b) = collections.Pause
collection_verb (collector.Compact b) = collections.Compact
collection_verb (collector.PauseWithin limits) = collections.PauseWithin
collection_verb (collector.Young limits) = collections.Young
collection_verb (collector.Clear k) = collections.Clear

abbrev pub collection_numbers : CollectorStep → List ℕ
collection_numbers (collector.Mark k) = k ∷ []
collection_numbers (collector.Refine k) = k ∷ []
collection_numbers (collector.Pause b) = b ∷ []
collection_numbers (collector.Compact b) = b ∷ []
collection_numbers (collector.PauseWithin limits) = limits.words ∷ limits.cards ∷ []
collection_numbers (collector.Young limits) = limits.words ∷ limits.cards ∷ []
collection_numbers (collector.Clear k) = k ∷ []
collection_numbers _ = []

abbrev pub collection_by : CollectionVerb → (ℕ → ℕ) → CollectorStep
collection_by collections.Begin n = collector.Begin
collection_by collections.Mark n = collector.Mark (n 0)
collection_by collections.Remark n = collector.Remark
collection_by collections.Cleanup n = collector.Cleanup
collection_by collections.Refine n = collector.Refine (n 0)
collection_by collections.Pause n = collector.Pause (n 0)
collection_by collections.Compact n = collector.Compact (n 0)
collection_by collections.PauseWithin n = collector.PauseWithin (record { words = n 0; cards = n 1 })
collection_by collections.Young n = collector.Young (record { words = n 0; cards = n 1 })
collection_by collections.Clear n = collector.Clear (n 0)

-- a grammar: verbs with their rows, and what a verb and its numbers stand for
pub record Grammar (V A : Type 0) : Type 0 where
  pub verbs : List V
  pub row : V → Row
  pub verb : A → V
  pub numbers : A → List ℕ
  pub make : V → (ℕ → ℕ) → A

abbrev pub actions_grammar : Grammar ActionVerb Action
actions_grammar = record {
  verbs = action_verbs;
  row = action_row;
  verb = action_verb;
  numbers = action_numbers;
  make = action_by;
}

abbrev pub collections_grammar : Grammar CollectionVerb CollectorStep
collections_grammar = record {
  verbs = collection_verbs;
  row = collection_row;
  verb = collection_verb;
  numbers = collection_numbers;
  make = collection_by;
}

-- what is left of a number in the bits of an operand
abbrev pub low : Operand → ℕ → ℕ
low Value zero = 0
low Value (suc n) = suc (n % 2 ^ 32)
low Byte n = n % 2 ^ 8
low Large n = n
low _ n = n % 2 ^ 32

-- the numbers that a list has for operands, by their places
abbrev pub numbers_in : List Operand → List ℕ → ℕ → ℕ
numbers_in operands numbers i = low (get_or operands i Small) (get_or numbers i 0)
