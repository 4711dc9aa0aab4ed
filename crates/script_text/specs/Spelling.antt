-- How steps are spelled.
use Rattle.std.specs.Prelude.{ℕ, zero, suc, List, [], ◌∷◌, ◌++◌, Option, codes}
use Rattle.std.specs.List.{join_with_byte, flat_map}
use Rattle.std.specs.Fmt.{decimal}
use Rattle.heap_words.specs.declared.config.Config.{Config}
use Rattle.heap_words.specs.declared.config.Format.{Format}
use Rattle.heap_words.specs.declared.config.Format.TheVariants.{V1, V2, V3}
use Rattle.heap_steps.specs.Actors.{StepList}
use Rattle.heap_steps.specs.Forms.{Grammar, actions_grammar, collections_grammar, value_number}
use Rattle.heap_steps.specs.declared.form.Operand.{Operand}
use Rattle.heap_steps.specs.declared.form.Operand.TheVariants as operands
use Rattle.heap_steps.specs.declared.step.Register.{Register}
use Rattle.heap_steps.specs.declared.step.GlobalRoot.{GlobalRoot}
use Rattle.heap_steps.specs.declared.step.Action.{Action}
use Rattle.heap_steps.specs.declared.step.CollectorStep.{CollectorStep}
use Rattle.heap_steps.specs.declared.step.Step.{Step}
use Rattle.heap_steps.specs.declared.step.Step.TheVariants as steps

-- the word of an operand's number: of a value 0 is nil, and registers count from 1
abbrev pub operand_word : Operand → ℕ → List ℕ
operand_word operands.Register n = codes "r" ++ decimal n
operand_word operands.Global n = codes "g" ++ decimal n
operand_word operands.Value zero = codes "nil"
operand_word operands.Value (suc n) = codes "r" ++ decimal n
operand_word _ n = decimal n

abbrev pub register_word : Register → List ℕ
register_word r = operand_word operands.Register r.number

abbrev pub global_word : GlobalRoot → List ℕ
global_word g = operand_word operands.Global g.number

abbrev pub value_word : Option Register → List ℕ
value_word v = operand_word operands.Value (value_number v)

-- a word for each operand
abbrev pub operand_words : List Operand → List ℕ → List (List ℕ)
operand_words (k ∷ ks) (n ∷ ns) = operand_word k n ∷ operand_words ks ns
operand_words _ _ = []

-- a verb's word, and those of its numbers
abbrev pub words_by : {V A : Type 0} → Grammar V A → A → List (List ℕ)
words_by g x = (g.row (g.verb x)).word ∷ operand_words (g.row (g.verb x)).operands (g.numbers x)

abbrev pub action_words : Action → List (List ℕ)
action_words a = words_by actions_grammar a

abbrev pub collection_words : CollectorStep → List (List ℕ)
collection_words k = words_by collections_grammar k

abbrev pub step_words : Step → List (List ℕ)
step_words (steps.Mutator o) = decimal o.mutator ∷ action_words o.action
step_words (steps.Collector k) = codes "gc" ∷ collection_words k

abbrev pub size_words : Config → List (List ℕ)
size_words c = decimal c.regions ∷ decimal c.words ∷ decimal c.buffer ∷ decimal c.mutators ∷ decimal c.first_name ∷ []

-- the words of a heap line: the second format's ends with the length of a card, the third's with that and how many globals
-- and registers there are
abbrev pub verb_of : Format → List ℕ
verb_of V1 = codes "heap"
verb_of (V2 card) = codes "heap2"
verb_of (V3 card globals registers) = codes "heap3"

abbrev pub format_words : Format → List (List ℕ)
format_words V1 = []
format_words (V2 card) = decimal card ∷ []
format_words (V3 card globals registers) = decimal card ∷ decimal globals ∷ decimal registers ∷ []

abbrev pub heap_words : Config → List (List ℕ)
heap_words c = verb_of c.format ∷ size_words c ++ format_words c.format

-- the words, parted by single spaces
abbrev pub spaced : List (List ℕ) → List ℕ
spaced words = join_with_byte 32 words

-- the words of a line, and its line feed
abbrev pub line : List (List ℕ) → List ℕ
line words = spaced words ++ 10 ∷ []

-- the text of a script
abbrev pub script_text : StepList → List ℕ
script_text p = line (heap_words p.config) ++ flat_map (λ s. line (step_words s)) p.steps
