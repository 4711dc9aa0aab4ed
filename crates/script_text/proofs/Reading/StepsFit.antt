-- All words of a script's line fit their places if and only if it is read as a step.
use Rattle.std.proofs.Common.{◌≡◌, ◌∙◌, ◌∷◌, [], ℕ, Bool, true, false, List, Option, None, Some, Ok, Err, ap, drop, refl, sym}
use Rattle.std.specs.Prelude.{◌&&◌, ◌+◌, ◌↔◌, Result, codes, is_some, if◌then◌else◌, option_map}
use Rattle.std.specs.Str.{bytes_eq}
use Rattle.heap_words.specs.declared.config.Config.{Config}
use Rattle.heap_steps.specs.declared.step.Actor.TheVariants as actors
use Rattle.heap_steps.specs.declared.step.Step.{Step}
use Rattle.heap_steps.specs.declared.step.Step.TheVariants as steps
use Rattle.script_text.specs.declared.fault.Kind.{Kind}
use Rattle.script_text.specs.declared.fault.Kind.TheVariants as kinds
use Rattle.script_text.specs.declared.expected.Expected.{Expected}
use Rattle.script_text.specs.declared.expected.Expected.TheVariants as expected
use Rattle.script_text.specs.declared.expected.TextKind.TheVariants.{Script}
use Rattle.script_text.specs.Lines.{◌>>=◌, or_fault, mutator_of, step_of}
use Rattle.script_text.specs.Expected.{first_misfit, fits, expected_in_line, expected_in_step, expected_from_verb, when_read}
use Rattle.script_text.specs.Reading.{allowed_of, action_of, collection_of}
use Rattle.script_text.proofs.Reading.Fitting.{all_fit, reads_by, collects_by}

-- a step is read where its actor and its part are
read_part : {A : Type 0} (x : Option A) (make : A → Step) (k : Kind)
    → is_some (when_read (or_fault x k >>= λ a. Ok (make a))) ≡ is_some x
read_part None make k = refl
read_part (Some a) make k = refl

step_fits : (c : Config) (words : List (List ℕ))
    → is_some (when_read (step_of c words)) ≡ all_fit c (expected_in_step Script c words (expected.End ∷ [])) words
unfolding step_of allowed_of action_of collection_of
step_fits c [] = refl
step_fits c (actor ∷ rest) = go (bytes_eq actor (codes "gc")) (mutator_of c actor) rest
  where
    go : (gc : Bool) (m : Result ℕ Kind) (rest : List (List ℕ))
        → is_some (when_read (if gc then (or_fault (collection_of c.format rest) kinds.BadStep >>= λ k. Ok (steps.Collector k))
        else (m >>= λ m. or_fault (allowed_of c rest) kinds.BadStep >>= λ a. Ok (steps.Mutator (record { mutator = m; action = a })))))
        ≡ is_some (if gc then Some actors.Collector else option_map actors.Mutator (when_read m))
        && all_fit c (expected_from_verb c (if gc then Some actors.Collector else option_map actors.Mutator (when_read m)) rest
        (expected.End ∷ []))
        rest
    go true m [] = refl
    go true m (verb ∷ args) = read_part (collection_of c.format (verb ∷ args)) steps.Collector kinds.BadStep ∙ collects_by c verb args
    go false (Ok m) [] = refl
    go false (Ok m) (verb ∷ args) =
        read_part (allowed_of c (verb ∷ args)) (λ a. steps.Mutator (record { mutator = m; action = a })) kinds.BadStep
        ∙ reads_by c verb args
    go false (Err k) rest = refl

-- all words fit where none is the first that doesn't
fit_where_none : (c : Config) (n : ℕ) (ps : List Expected) (words : List (List ℕ)) → first_misfit c n ps words ≡ None
    → all_fit c ps words ≡ true
fit_where_none c n [] words e = refl
fit_where_none c n (p ∷ ps) words e = go (fits c p words) refl (fit_where_none c (n + 1) ps (drop 1 words))
  where
    go : (b : Bool) → fits c p words ≡ b → (first_misfit c (n + 1) ps (drop 1 words) ≡ None → all_fit c ps (drop 1 words) ≡ true)
        → fits c p words && all_fit c ps (drop 1 words) ≡ true
    go true is behind =
        let left : first_misfit c (n + 1) ps (drop 1 words) ≡ None = rw is at e in
        rw is (behind left)
    go false is behind =
        let bad : Some (record { word = n; place = p }) ≡ None = rw is at e in
        cc

none_where_fit : (c : Config) (n : ℕ) (ps : List Expected) (words : List (List ℕ)) → all_fit c ps words ≡ true
    → first_misfit c n ps words ≡ None
none_where_fit c n [] words e = refl
none_where_fit c n (p ∷ ps) words e = go (fits c p words) refl (none_where_fit c (n + 1) ps (drop 1 words))
  where
    go : (b : Bool) → fits c p words ≡ b → (all_fit c ps (drop 1 words) ≡ true → first_misfit c (n + 1) ps (drop 1 words) ≡ None)
        → first_misfit c n (p ∷ ps) words ≡ None
    go true is behind =
        let left : all_fit c ps (drop 1 words) ≡ true = rw is at e in
        rw is (behind left)
    go false is behind =
        let bad : false ≡ true = rw is at e in
        cc

read_where : {A : Type 0} (r : Result A Kind) → is_some (when_read r) ≡ true → (x : A) × (r ≡ Ok x)
read_where (Ok x) e = (x, refl)
read_where (Err k) e = absurd (cc)

pub step_is_read : (c : Config) (n : ℕ) (words : List (List ℕ))
    → ((s : Step) × (step_of c words ≡ Ok s)) ↔ (first_misfit c 1 (expected_in_line Script c n words) words ≡ None)
step_is_read c n words = (
  (λ read. none_where_fit c 1 _ words (sym (step_fits c words) ∙ ap (λ (r : Result Step Kind). is_some (when_read r)) read.1)),
  (λ none. read_where (step_of c words) (step_fits c words ∙ fit_where_none c 1 (expected_in_line Script c n words) words none)),
)
