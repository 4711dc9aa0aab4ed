-- The scripts and the records that have a text.
use Rattle.std.specs.Prelude.{ℕ, zero, suc, List, [], ◌∷◌, ◌≤◌, All, Option, None, Some, length}
use Rattle.heap_words.specs.declared.config.Config.{Config}
use Rattle.heap_words.specs.declared.config.Format.{Format}
use Rattle.heap_words.specs.declared.config.Format.TheVariants.{V1, V2, V3}
use Rattle.heap_steps.specs.Actors.{StepList, AreSteps, EventList, AreEvents}
use Rattle.heap_steps.specs.Forms.{Grammar, actions_grammar, collections_grammar, value_number}
use Rattle.heap_steps.specs.declared.form.Operand.{Operand}
use Rattle.heap_steps.specs.declared.form.Operand.TheVariants as operands
use Rattle.heap_steps.specs.declared.step.Register.{Register}
use Rattle.heap_steps.specs.declared.step.GlobalRoot.{GlobalRoot}
use Rattle.heap_steps.specs.declared.step.Action.{Action}
use Rattle.heap_steps.specs.declared.step.CollectorStep.{CollectorStep}
use Rattle.heap_steps.specs.declared.step.Step.{Step}
use Rattle.heap_steps.specs.declared.step.Step.TheVariants as steps
use Rattle.heap_steps.specs.declared.step.Reply.{Reply}
use Rattle.heap_steps.specs.declared.step.Reply.TheVariants as replies
use Rattle.heap_steps.specs.declared.step.Event.{Event}
use Rattle.script_text.specs.Reading.{small, large, most_weaks}

-- a number of an operand is one of its type
abbrev pub OperandFits : Operand → ℕ → Type 0
OperandFits operands.Value zero = Unit {0}
OperandFits operands.Value (suc n) = n ≤ small
OperandFits operands.Byte n = n ≤ most_weaks
OperandFits operands.Large n = n ≤ large
OperandFits _ n = n ≤ small

abbrev pub RegisterFits : Register → Type 0
RegisterFits r = OperandFits operands.Register r.number

abbrev pub GlobalFits : GlobalRoot → Type 0
GlobalFits g = OperandFits operands.Global g.number

abbrev pub ValueFits : Option Register → Type 0
ValueFits v = OperandFits operands.Value (value_number v)

-- there is such a number for each operand
abbrev pub OperandsFit : List Operand → List ℕ → Type 0
OperandsFit [] [] = Unit {0}
OperandsFit (k ∷ ks) (n ∷ ns) = OperandFits k n × OperandsFit ks ns
OperandsFit _ _ = ⊥

abbrev pub FitsBy : {V A : Type 0} → Grammar V A → A → Type 0
FitsBy g x = OperandsFit (g.row (g.verb x)).operands (g.numbers x)

-- the numbers of an action are those of its type
abbrev pub Fits : Action → Type 0
Fits a = FitsBy actions_grammar a

abbrev pub CollectionFits : CollectorStep → Type 0
CollectionFits k = FitsBy collections_grammar k

abbrev pub StepFits : Step → Type 0
StepFits (steps.Mutator o) = Fits o.action
StepFits (steps.Collector k) = CollectionFits k

abbrev pub FormatFits : Format → Type 0
FormatFits V1 = Unit {0}
FormatFits (V2 card) = card ≤ small
FormatFits (V3 card globals registers) = (card ≤ small) × (globals ≤ small) × (registers ≤ small)

pub record ConfigFits (c : Config) : Type 0 where
  pub format : FormatFits c.format
  pub regions : c.regions ≤ small
  pub words : c.words ≤ small
  pub buffer : c.buffer ≤ small
  pub mutators : c.mutators ≤ small
  pub first_name : c.first_name ≤ large

-- a script that has a text
pub record IsScript (p : StepList) : Type 0 where
  pub config : ConfigFits p.config
  pub owned : AreSteps p.config p.steps
  pub fits : All StepFits p.steps

abbrev pub ReplyFits : Reply → Type 0
ReplyFits replies.Done = Unit {0}
ReplyFits (replies.Named None) = Unit {0}
ReplyFits (replies.Named (Some n)) = n ≤ large
ReplyFits (replies.Word w) = w ≤ large
ReplyFits (replies.Shape p d) = (p ≤ small) × (d ≤ small)
ReplyFits (replies.Marked n) = n ≤ small
ReplyFits (replies.Reclaimed n) = n ≤ small
ReplyFits (replies.Refined n) = n ≤ small
ReplyFits (replies.Moved n w) = (n ≤ small) × (w ≤ small)
ReplyFits (replies.Refused why) = Unit {0}

abbrev pub EventFits : Event → Type 0
EventFits e = StepFits e.step × ReplyFits e.reply

-- a record that has a text
pub record IsRecord (r : EventList) : Type 0 where
  pub config : ConfigFits r.config
  pub owned : AreEvents r.config r.events
  pub fits : All EventFits r.events
  pub few : length r.events ≤ large
