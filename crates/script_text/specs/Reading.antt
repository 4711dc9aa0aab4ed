-- How the words of a line are read.
use Rattle.std.specs.Prelude.{ℕ, zero, suc, ◌-◌, ◌^◌, List, [], ◌∷◌, Option, Some, None, nat_le, get_or, ◌==◌, ◌&&◌, if◌then◌else◌, codes}
use Rattle.std.specs.Fmt.{decimal}
use Rattle.std.specs.Str.{bytes_eq}
use Rattle.std.specs.Str.Parse.{digits_value}
use Rattle.heap_words.specs.declared.config.Config.{Config}
use Rattle.heap_words.specs.declared.config.Format.{Format}
use Rattle.heap_words.specs.declared.config.Format.TheVariants.{V1, V2, V3}
use Rattle.heap_steps.specs.Actors.{allows, has_row}
use Rattle.heap_steps.specs.Forms.{Row, Grammar, actions_grammar, collections_grammar}
use Rattle.heap_steps.specs.declared.form.Operand.{Operand}
use Rattle.heap_steps.specs.declared.form.Operand.TheVariants as operands
use Rattle.heap_steps.specs.declared.step.Action.{Action}
use Rattle.heap_steps.specs.declared.step.CollectorStep.{CollectorStep}

infixl 10 ◌>>=◌
abbrev pub ◌>>=◌ : {A B : Type 0} → Option A → (A → Option B) → Option B
None >>= f = None
(Some x) >>= f = f x

-- a word is a number if it is the decimal spelling of its own value
unfoldable pub number_of : ℕ → List ℕ → Option ℕ
number_of limit word =
    if bytes_eq word (decimal (digits_value 10 word)) && nat_le (digits_value 10 word) limit then Some (digits_value 10 word) else None

abbrev pub large : ℕ
large = 2 ^ 64 - 1

abbrev pub small : ℕ
small = 2 ^ 32 - 1

-- the number after a letter
unfoldable pub number_behind : ℕ → List ℕ → Option ℕ
number_behind letter [] = None
number_behind letter (b ∷ digits) = if b == letter then number_of small digits else None

-- an object has at most 255 weak slots
abbrev pub most_weaks : ℕ
most_weaks = 255

-- the number that a word is as an operand: of registers and globals any, since the sizes of a heap say which there are
unfoldable pub operand_of : Operand → List ℕ → Option ℕ
operand_of operands.Register word = number_behind 114 word
operand_of operands.Global word = number_behind 103 word
operand_of operands.Value word = if bytes_eq word (codes "nil") then Some 0 else (do
  n ← number_behind 114 word
  Some (suc n))
operand_of operands.Small word = number_of small word
operand_of operands.Byte word = number_of most_weaks word
operand_of operands.Large word = number_of large word

-- the numbers that words are as operands, one for each
abbrev pub operands_of : List Operand → List (List ℕ) → Option (List ℕ)
operands_of [] [] = Some []
operands_of [] (word ∷ words) = None
operands_of (k ∷ ks) [] = None
operands_of (k ∷ ks) (word ∷ words) = do
  n ← operand_of k word
  ns ← operands_of ks words
  Some (n ∷ ns)

-- the number of the word at a place, as the operand there; 0 where there is none
abbrev pub operand_at : List Operand → List (List ℕ) → ℕ → Option ℕ
operand_at (k ∷ ks) (word ∷ words) zero = operand_of k word
operand_at (k ∷ ks) (word ∷ words) (suc i) = operand_at ks words i
operand_at _ _ i = Some 0

-- the first of some verbs that a word is
abbrev pub verb_among : {V : Type 0} → (V → Row) → List V → List ℕ → Option V
verb_among row [] word = None
verb_among row (v ∷ vs) word = if bytes_eq word (row v).word then Some v else verb_among row vs word

abbrev pub verb_by : {V A : Type 0} → Grammar V A → List ℕ → Option V
verb_by g word = verb_among g.row g.verbs word

-- the same, if the format has it
abbrev pub known_among : {V : Type 0} → (V → Row) → Format → List V → List ℕ → Option V
known_among row f vs word = do
  v ← verb_among row vs word
  if has_row f (row v).third then Some v else None

abbrev pub verb_in : {V A : Type 0} → Format → Grammar V A → List ℕ → Option V
verb_in f g word = known_among g.row f g.verbs word

-- what a verb and the words after it stand for
abbrev pub made_by : {V A : Type 0} → Grammar V A → V → List (List ℕ) → Option A
made_by g v words = do
  ns ← operands_of (g.row v).operands words
  Some (g.make v (λ i. get_or ns i 0))

-- what words stand for, the first of which is a verb
abbrev pub read_by : {V A : Type 0} → Grammar V A → List (List ℕ) → Option A
read_by g [] = None
read_by g (word ∷ words) = do
  v ← verb_by g word
  made_by g v words

unfoldable pub action_of : List (List ℕ) → Option Action
action_of words = read_by actions_grammar words

-- what was read, where heaps of these sizes have it: each root that it names is there, and their format knows it
abbrev pub allowed_in : Config → Option Action → Option Action
allowed_in c read = do
  a ← read
  if allows c a then Some a else None

unfoldable pub allowed_of : Config → List (List ℕ) → Option Action
allowed_of c ws = allowed_in c (action_of ws)

-- a step of the collector, if the format has it
unfoldable pub collection_of : Format → List (List ℕ) → Option CollectorStep
collection_of f [] = None
collection_of f (word ∷ words) = do
  v ← verb_in f collections_grammar word
  made_by collections_grammar v words

-- the sizes that five words give, after the verb of the format
unfoldable pub sizes_in : Format → List ℕ → List ℕ → List ℕ → List ℕ → List ℕ → Option Config
sizes_in format regions size buffer mutators first_name = do
  n ← number_of small regions
  r ← number_of small size
  b ← number_of small buffer
  m ← number_of small mutators
  f ← number_of large first_name
  Some (record { format = format; regions = n; words = r; buffer = b; mutators = m; first_name = f })

-- the third format, by what is after the five
unfoldable pub third_of : List ℕ → List ℕ → List ℕ → Option Format
third_of card globals registers = do
  c ← number_of small card
  g ← number_of small globals
  r ← number_of small registers
  Some (V3 c g r)

unfoldable pub sizes_of : List (List ℕ) → Option Config
sizes_of (verb ∷ regions ∷ size ∷ buffer ∷ mutators ∷ first_name ∷ []) =
    if bytes_eq verb (codes "heap") then sizes_in V1 regions size buffer mutators first_name else None
sizes_of (verb ∷ regions ∷ size ∷ buffer ∷ mutators ∷ first_name ∷ card ∷ []) =
    if bytes_eq verb (codes "heap2") then (do
      c ← number_of small card
      sizes_in (V2 c) regions size buffer mutators first_name)
    else None
sizes_of (verb ∷ regions ∷ size ∷ buffer ∷ mutators ∷ first_name ∷ card ∷ globals ∷ registers ∷ []) =
    if bytes_eq verb (codes "heap3") then (do
      format ← third_of card globals registers
      sizes_in format regions size buffer mutators first_name)
    else None
sizes_of _ = None
