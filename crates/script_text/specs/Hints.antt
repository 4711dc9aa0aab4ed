-- What a line with a fault lacks, as it is told.
use Rattle.std.specs.Prelude.{◌≡◌, ℕ, zero, suc, ◌+◌, ◌-◌, List, [], ◌∷◌, ◌++◌, Some, Ok, codes, if◌then◌else◌, length, slice_get}
use Rattle.std.specs.Fmt.{decimal}
use Rattle.heap_words.specs.declared.config.Config.{Config}
use Rattle.heap_words.specs.Configs.{globals_of, registers_of}
use Rattle.heap_words.specs.declared.config.Format.{Format}
use Rattle.heap_steps.specs.Actors.{has_row}
use Rattle.heap_steps.specs.Forms.{Row, action_row, action_verbs, collection_row, collection_verbs}
use Rattle.heap_steps.specs.declared.form.Operand.{Operand}
use Rattle.heap_steps.specs.declared.form.Operand.TheVariants as operands
use Rattle.script_text.specs.declared.fault.Kind.{Kind}
use Rattle.script_text.specs.declared.fault.Kind.TheVariants as kinds
use Rattle.script_text.specs.declared.fault.LineFault.{LineFault}
use Rattle.script_text.specs.declared.expected.Expected.{Expected}
use Rattle.script_text.specs.declared.expected.Expected.TheVariants as expected
use Rattle.script_text.specs.declared.expected.Stop.{Stop}
use Rattle.script_text.specs.declared.expected.TextKind.{TextKind}
use Rattle.script_text.specs.Faults.{shown}
use Rattle.script_text.specs.Lines.{pieces_of, words_of, heap_line_of}
use Rattle.script_text.specs.Expected.{stop_in, heap_stop_in, no_sizes}

-- the words for an operand, before the limit that a heap's sizes set
abbrev pub operand_text : Operand → List ℕ
operand_text operands.Register = codes "a register below r"
operand_text operands.Global = codes "a global below g"
operand_text operands.Value = codes "nil or a register below r"
operand_text operands.Small = codes "a number up to 4294967295"
operand_text operands.Byte = codes "a number up to 255"
operand_text operands.Large = codes "a number up to 18446744073709551615"

-- what is between a word and so many more of a list
abbrev pub between : ℕ → List ℕ
between zero = []
between (suc zero) = codes " or "
between _ = codes ", "

-- words as a sentence lists them: `a`, `a or b`, `a, b or c`
abbrev pub listed : List (List ℕ) → List ℕ
listed [] = []
listed (w ∷ ws) = w ++ (between (length ws) ++ listed ws)

-- the words of those verbs that a format has
abbrev pub known_words : {V : Type 0} → (V → Row) → Format → List V → List (List ℕ)
known_words row f [] = []
known_words row f (v ∷ vs) = if has_row f (row v).third then (row v).word ∷ known_words row f vs else known_words row f vs

abbrev pub verbs_text : {V : Type 0} → (V → Row) → Format → List V → List ℕ
verbs_text row f vs = listed (known_words row f vs)

-- the words for a place that is no verb's, before the limit that a heap's sizes set
abbrev pub place_text : Expected → List ℕ
place_text (expected.Count n) = codes "the count "
place_text expected.ScriptActor = codes "gc, or a mutator below "
place_text expected.RecordActor = codes "gc, m0 to m7, f0 to f7, or a mutator below "
place_text expected.Action = []
place_text expected.Collection = []
place_text expected.Marking = codes "mark"
place_text expected.Refining = codes "refine"
place_text (expected.Operand k) = operand_text k
place_text expected.Equals = codes "= and a reply"
place_text expected.Reply = codes "a reply, such as ok, nil, #3, 7, 1 2 or refused 1 Nil"
place_text expected.End = codes "the line's end"
place_text expected.Heap = codes "heap, heap2 or heap3"
place_text expected.Regions = codes "REGIONS, a number up to 4294967295"
place_text expected.RegionWords = codes "WORDS, a number up to 4294967295"
place_text expected.Buffer = codes "BUFFER, a number up to 4294967295"
place_text expected.Mutators = codes "MUTATORS, a number up to 4294967295"
place_text expected.FirstName = codes "FIRST, a number up to 18446744073709551615"
place_text expected.Card = codes "CARD, a number up to 4294967295"
place_text expected.Globals = codes "GLOBALS, a number up to 4294967295"
place_text expected.Registers = codes "REGISTERS, a number up to 4294967295"

-- the same of any place
abbrev pub expected_words : Expected → Format → List ℕ
expected_words expected.Action f = verbs_text action_row f action_verbs
expected_words expected.Collection f = verbs_text collection_row f collection_verbs
expected_words place f = place_text place

-- the count, or the limit that the sizes of a heap set to a place
abbrev pub limit_text : Config → Expected → List ℕ
limit_text c (expected.Count n) = decimal n
limit_text c expected.ScriptActor = decimal c.mutators
limit_text c expected.RecordActor = decimal c.mutators
limit_text c (expected.Operand operands.Register) = decimal (registers_of c)
limit_text c (expected.Operand operands.Value) = decimal (registers_of c)
limit_text c (expected.Operand operands.Global) = decimal (globals_of c)
limit_text c _ = []

-- what may be at a place
abbrev pub expected_text : Config → Expected → List ℕ
expected_text c place = expected_words place c.format ++ limit_text c place

-- a word that doesn't fit, and what may be in its place
abbrev pub stop_text : Config → Stop → List ℕ
stop_text c stop = codes "word " ++ decimal stop.word ++ codes ": " ++ expected_text c stop.place

-- the line that shows line n of a text, and says something of it
abbrev pub line_reason : ℕ → List ℕ → List ℕ → List ℕ
line_reason n line hint = codes "line " ++ decimal n ++ codes ": " ++ shown line ++ codes "; " ++ hint ++ 10 ∷ []

-- line n of a text, counted from 1, which a line feed ends
pub record IsLine (input : List ℕ) (n : ℕ) (line : List ℕ) : Type 0 where
  pub there : slice_get (pieces_of input) (n - 1) ≡ Some line
  pub next : List ℕ
  pub ended : slice_get (pieces_of input) (n - 1 + 1) ≡ Some next

-- a hint names the first word of a step's line, or of an event's, that doesn't fit its place
abbrev pub NamesMisfit : TextKind → ℕ → List ℕ → List ℕ → List ℕ → Type 0
NamesMisfit kind n input line hint = (first : List ℕ) (c : Config) (stop : Stop) → IsLine input 1 first → heap_line_of first ≡ Ok c
    → IsLine input n line → stop_in kind c (n - 1) (words_of line) ≡ Some stop → hint ≡ stop_text c stop

-- the same of a heap line
abbrev pub NamesHeapMisfit : ℕ → List ℕ → List ℕ → List ℕ → Type 0
NamesHeapMisfit n input line hint = (stop : Stop) → IsLine input n line → heap_stop_in (words_of line) ≡ Some stop
    → hint ≡ stop_text no_sizes stop

-- what a line with a fault of this kind lacks
abbrev pub IsHint : Kind → TextKind → ℕ → List ℕ → List ℕ → List ℕ → Type 0
IsHint kinds.Cut kind n input line hint = hint ≡ codes "a line feed behind it"
IsHint kinds.LongLine kind n input line hint = hint ≡ codes "at most 120 bytes"
IsHint kinds.NoMemory kind n input line hint = hint ≡ codes "memory to read it"
IsHint kinds.BadHeap kind n input line hint = NamesHeapMisfit n input line hint
IsHint _ kind n input line hint = NamesMisfit kind n input line hint

-- A text tells of a line of the input that has a fault: it shows that one, if it is there, says what it lacks, and perhaps more.
abbrev pub IsFaultReason : TextKind → LineFault → List ℕ → List ℕ → Type 0
IsFaultReason kind fault input told = (line : List ℕ) → slice_get (pieces_of input) (fault.line - 1) ≡ Some line
    → (hint : List ℕ) × (more : List ℕ) × IsHint fault.kind kind fault.line input line hint
    × (told ≡ line_reason fault.line line hint ++ more)

-- A text shows a line of the input, if it is there, and says this of it.
abbrev pub IsLineReason : ℕ → List ℕ → List ℕ → List ℕ → Type 0
IsLineReason n input hint told = (line : List ℕ) → slice_get (pieces_of input) (n - 1) ≡ Some line → told ≡ line_reason n line hint
