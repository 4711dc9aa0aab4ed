-- The words of a step, and that the step is read from them.
use Rattle.std.proofs.Common.{◌≡◌, ◌^◌, ◌+◌, ◌<◌, ◌≤◌, ◌∷◌, ◌++◌, ◌∙◌}
use Rattle.std.proofs.Common.{ℕ, false, eqb, List, [], length, Option, Some, Ok, refl, ap, arith}
use Rattle.std.specs.Prelude.{codes}
use Rattle.std.specs.Fmt.{decimal}
use Rattle.std.specs.Str.{bytes_eq}
use Rattle.std.proofs.lemmas.Bool.{lt-ltb, le-ltb}
use Rattle.std.specs.List.{All}
use Rattle.std.proofs.lemmas.List.Elements.{All-nil, All-cons, All-append}
use Rattle.heap_words.specs.declared.config.Config.{Config}
use Rattle.heap_words.specs.declared.config.Format.{Format}
use Rattle.heap_words.specs.declared.config.Format.TheVariants.{V1, V2, V3}
use Rattle.heap_steps.specs.Actors.{HasCollection, IsOp, IsStep}
use Rattle.heap_steps.specs.Forms.{actions_grammar, collections_grammar}
use Rattle.heap_steps.specs.declared.step.CollectorStep.{CollectorStep}
use Rattle.heap_steps.specs.declared.step.Op.{Op}
use Rattle.heap_steps.specs.declared.step.Step.{Step}
use Rattle.heap_steps.specs.declared.step.Step.TheVariants as steps
use Rattle.script_text.specs.declared.fault.Kind.TheVariants as kinds
use Rattle.script_text.specs.Reading.{small, large, sizes_in, third_of, sizes_of}
use Rattle.script_text.specs.Fits.{Fits, CollectionFits, StepFits, FormatFits, ConfigFits}
use Rattle.script_text.specs.Spelling.{action_words, collection_words, step_words, verb_of, size_words, format_words, heap_words, spaced}
use Rattle.script_text.specs.Lines.{or_fault, words_of, mutator_of, step_of, step_line_of, heap_line_of}
use Rattle.script_text.proofs.Parts.Numbers.{number_of_some}
use Rattle.script_text.proofs.BothWays.Grammars.{words_are, words_long}
use Rattle.script_text.proofs.BothWays.Actions.{actions_are, collections_are}
use Rattle.script_text.proofs.BothWays.Allowed.{allowed_again}
use Rattle.script_text.proofs.BothWays.Collections.{collection_again}
use Rattle.script_text.proofs.BothWays.ReplyLaws.{number_not}
use Rattle.script_text.proofs.BothWays.Lengths.{spaced_next, spaced_behind, four_long}
use Rattle.script_text.proofs.Parts.Rows.{small_long}
use Rattle.script_text.proofs.Parts.Spelled.{IsWord, AreWords, literal, number_word, small_word}
use Rattle.script_text.proofs.Parts.Spelled.{word1, word3, word4, words_again, no_feed}

-- a number is no collector
pub not_gc : (m : ℕ) → m < 2 ^ 64 → bytes_eq (decimal m) (codes "gc") ≡ false
not_gc m fits = number_not m (codes "gc") (omega (arith, fits)) (omega arith)

pub mutator_again : (c : Config) (m : ℕ) → m < c.mutators → m ≤ small → mutator_of c (decimal m) ≡ Ok m
unfolding mutator_of
mutator_again c m known fits = rw (number_of_some small (decimal m) m (omega arith) refl fits, lt-ltb m c.mutators known) refl

op_again : (c : Config) (o : Op) → o.mutator ≤ small → IsOp c o → Fits o.action
    → step_of c (decimal o.mutator ∷ action_words o.action) ≡ Ok (steps.Mutator o)
unfolding step_of
op_again c o few known fits =
    rw (not_gc o.mutator (omega arith), mutator_again c o.mutator known.at.mutator few, allowed_again c o known fits) refl

-- the line of a mutator's step, by its words
pub op_line_again : (c : Config) (line : List ℕ) (o : Op) → length line ≤ 120 → words_of line ≡ decimal o.mutator ∷ action_words o.action
    → o.mutator ≤ small → IsOp c o → Fits o.action → step_line_of c line ≡ Ok (steps.Mutator o)
unfolding step_line_of
op_line_again c line o short words few known fits =
    rw (le-ltb 120 (length line) short) (ap (step_of c) words ∙ op_again c o few known fits)

gc_again : (c : Config) (k : CollectorStep) → HasCollection c.format k → CollectionFits k
    → step_of c (codes "gc" ∷ collection_words k) ≡ Ok (steps.Collector k)
unfolding step_of
gc_again c k known fits = rw (collection_again c.format k known fits) refl

-- the line of a collector's step, by its words
pub gc_line_again : (c : Config) (line : List ℕ) (k : CollectorStep) → length line ≤ 120 → words_of line ≡ codes "gc" ∷ collection_words k
    → HasCollection c.format k → CollectionFits k → step_line_of c line ≡ Ok (steps.Collector k)
unfolding step_line_of
gc_line_again c line k short words known fits = rw (le-ltb 120 (length line) short) (ap (step_of c) words ∙ gc_again c k known fits)

step_again : (c : Config) (s : Step) → c.mutators ≤ small → IsStep c s → StepFits s → step_of c (step_words s) ≡ Ok s
step_again c (steps.Mutator o) few known fits =
    let who : o.mutator < c.mutators = known.at.mutator in
    op_again c o (omega arith) known fits
step_again c (steps.Collector k) few known fits = gc_again c k known fits

step_is_words : (c : Config) (s : Step) → c.mutators ≤ small → IsStep c s → StepFits s → AreWords (step_words s)
step_is_words c (steps.Mutator o) few known fits =
    let who : o.mutator < c.mutators = known.at.mutator in
    All-cons IsWord (decimal o.mutator) (action_words o.action) (small_word o.mutator (omega arith))
    (words_are actions_grammar actions_are o.action fits)
step_is_words c (steps.Collector k) few known fits =
    All-cons IsWord (codes "gc") (collection_words k) (literal (codes "gc") refl refl)
    (words_are collections_grammar collections_are k fits)

step_short : (c : Config) (s : Step) → c.mutators ≤ small → IsStep c s → StepFits s → length (spaced (step_words s)) ≤ 120
step_short c (steps.Mutator o) few known fits =
    let who : o.mutator < c.mutators = known.at.mutator in
    let first : length (decimal o.mutator) ≤ 21 = (small_word o.mutator (omega arith)).short in
    let all = spaced_behind (decimal o.mutator) (action_words o.action) in
    let rest = words_long actions_grammar actions_are o.action fits in
    omega (arith, all, rest)
step_short c (steps.Collector k) few known fits =
    let all = spaced_behind (codes "gc") (collection_words k) in
    let rest = words_long collections_grammar collections_are k fits in
    omega (arith, all, rest)

step_words_again : (c : Config) (s : Step) → c.mutators ≤ small → IsStep c s → StepFits s → words_of (spaced (step_words s)) ≡ step_words s
step_words_again c (steps.Mutator o) few known fits =
    words_again (decimal o.mutator) (action_words o.action) (step_is_words c (steps.Mutator o) few known fits)
step_words_again c (steps.Collector k) few known fits =
    words_again (codes "gc") (collection_words k) (step_is_words c (steps.Collector k) few known fits)

-- the line of a step is read as that step
pub step_line_again : (c : Config) (s : Step) → c.mutators ≤ small → IsStep c s → StepFits s → step_line_of c (spaced (step_words s)) ≡ Ok s
unfolding step_line_of
step_line_again c s few known fits =
    rw (le-ltb 120 (length (spaced (step_words s))) (step_short c s few known fits))
    (ap (step_of c) (step_words_again c s few known fits) ∙ step_again c s few known fits)

-- no line feed is in the line of a step
pub step_no_feed : (c : Config) (s : Step) → c.mutators ≤ small → IsStep c s → StepFits s
    → All (λ b. eqb b 10 ≡ false) (spaced (step_words s))
step_no_feed c (steps.Mutator o) few known fits =
    no_feed (decimal o.mutator) (action_words o.action) (step_is_words c (steps.Mutator o) few known fits)
step_no_feed c (steps.Collector k) few known fits =
    no_feed (codes "gc") (collection_words k) (step_is_words c (steps.Collector k) few known fits)

sizes_are_words : (c : Config) → ConfigFits c → AreWords (size_words c)
sizes_are_words c fits = All-cons IsWord (decimal c.regions)
    (decimal c.words ∷ decimal c.buffer ∷ decimal c.mutators ∷ decimal c.first_name ∷ []) (small_word c.regions fits.regions)
    (word4 _ _ _ _ (small_word c.words fits.words) (small_word c.buffer fits.buffer) (small_word c.mutators fits.mutators)
    (number_word c.first_name fits.first_name))

format_is_words : (f : Format) → FormatFits f → AreWords (format_words f)
format_is_words V1 fits = All-nil IsWord
format_is_words (V2 card) fits = word1 _ (small_word card fits)
format_is_words (V3 card globals registers) fits =
    word3 _ _ _ (small_word card fits.0) (small_word globals fits.1) (small_word registers fits.2)

-- what is after the verb
behind_verb : Config → List (List ℕ)
behind_verb c = size_words c ++ format_words c.format

rest_is_words : (c : Config) → ConfigFits c → AreWords (behind_verb c)
unfolding behind_verb
rest_is_words c fits =
    All-append IsWord (size_words c) (format_words c.format) (sizes_are_words c fits) (format_is_words c.format fits.format)

verb_is_word : (f : Format) → IsWord (verb_of f)
verb_is_word V1 = literal _ refl refl
verb_is_word _ = literal _ refl refl

verb_short : (f : Format) → length (verb_of f) ≤ 5
verb_short V1 = omega arith
verb_short _ = omega arith

heap_is_words : (c : Config) → ConfigFits c → AreWords (heap_words c)
unfolding behind_verb
heap_is_words c fits = All-cons IsWord (verb_of c.format) (behind_verb c) (verb_is_word c.format) (rest_is_words c fits)

pub heap_no_feed : (c : Config) → ConfigFits c → All (λ b. eqb b 10 ≡ false) (spaced (heap_words c))
unfolding behind_verb
heap_no_feed c fits = no_feed (verb_of c.format) (behind_verb c) (heap_is_words c fits)

ending_short : (f : Format) (name : List ℕ) → FormatFits f → length (spaced (name ∷ format_words f)) ≤ length name + 33
ending_short V1 name fits = omega arith
ending_short (V2 card) name fits = let ten = small_long card fits in omega (arith, spaced_next name (decimal card) [])
ending_short (V3 card globals registers) name fits =
    let first = small_long card fits.0 in
    let second = small_long globals fits.1 in
    let third = small_long registers fits.2 in
    omega (arith, four_long name (decimal card) (decimal globals) (decimal registers))

heap_short : (c : Config) → ConfigFits c → length (spaced (heap_words c)) ≤ 120
unfolding behind_verb
heap_short c fits =
    let verb = verb_short c.format in
    let regions = small_long c.regions fits.regions in
    let words = small_long c.words fits.words in
    let buffer = small_long c.buffer fits.buffer in
    let mutators = small_long c.mutators fits.mutators in
    let name = (number_word c.first_name fits.first_name).short in
    let ending = ending_short c.format (decimal c.first_name) fits.format in
    omega (
      arith,
      spaced_next (verb_of c.format) (decimal c.regions)
          (decimal c.words ∷ decimal c.buffer ∷ decimal c.mutators ∷ decimal c.first_name ∷ format_words c.format),
      spaced_next (decimal c.regions) (decimal c.words)
          (decimal c.buffer ∷ decimal c.mutators ∷ decimal c.first_name ∷ format_words c.format),
      spaced_next (decimal c.words) (decimal c.buffer) (decimal c.mutators ∷ decimal c.first_name ∷ format_words c.format),
      spaced_next (decimal c.buffer) (decimal c.mutators) (decimal c.first_name ∷ format_words c.format),
      spaced_next (decimal c.mutators) (decimal c.first_name) (format_words c.format),
    )

sizes_again : (c : Config) → ConfigFits c
    → sizes_in c.format (decimal c.regions) (decimal c.words) (decimal c.buffer) (decimal c.mutators) (decimal c.first_name) ≡ Some c
unfolding sizes_in
sizes_again c fits =
    let r = number_of_some small (decimal c.regions) c.regions (let f = fits.regions in omega arith) refl fits.regions in
    let w = number_of_some small (decimal c.words) c.words (let f = fits.words in omega arith) refl fits.words in
    let b = number_of_some small (decimal c.buffer) c.buffer (let f = fits.buffer in omega arith) refl fits.buffer in
    let m = number_of_some small (decimal c.mutators) c.mutators (let f = fits.mutators in omega arith) refl fits.mutators in
    let n = number_of_some large (decimal c.first_name) c.first_name (let f = fits.first_name in omega arith) refl fits.first_name in
    rw (r, w, b, m, n) refl

lines_again : (f : Format) (c : Config) (n r b m g : List ℕ) → FormatFits f → sizes_in f n r b m g ≡ Some c
    → sizes_of (verb_of f ∷ n ∷ r ∷ b ∷ m ∷ g ∷ format_words f) ≡ Some c
unfolding sizes_of third_of
lines_again V1 c n r b m g fits again = again
lines_again (V2 card) c n r b m g fits again =
    let k = number_of_some small (decimal card) card (omega arith) refl fits in
    rw k again
lines_again (V3 card globals registers) c n r b m g fits again =
    let few = fits.0 in
    let fewer = fits.1 in
    let fewest = fits.2 in
    let k = number_of_some small (decimal card) card (omega arith) refl few in
    let i = number_of_some small (decimal globals) globals (omega arith) refl fewer in
    let j = number_of_some small (decimal registers) registers (omega arith) refl fewest in
    rw (k, i, j) again

heap_again : (c : Config) → ConfigFits c → sizes_of (heap_words c) ≡ Some c
heap_again c fits = lines_again c.format c _ _ _ _ _ fits.format (sizes_again c fits)

-- the heap line is read as its sizes
pub heap_line_again : (c : Config) → ConfigFits c → heap_line_of (spaced (heap_words c)) ≡ Ok c
unfolding heap_line_of behind_verb
heap_line_again c fits =
    let words : words_of (spaced (heap_words c)) ≡ heap_words c = words_again (verb_of c.format) (behind_verb c) (heap_is_words c fits) in
    rw (le-ltb 120 (length (spaced (heap_words c))) (heap_short c fits))
    (ap (λ (ws : List (List ℕ)). or_fault (sizes_of ws) kinds.BadHeap) words
    ∙ ap (λ (o : Option Config). or_fault o kinds.BadHeap) (heap_again c fits))
