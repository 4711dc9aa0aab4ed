-- The words after a verb fit their places if and only if they are read.
use Rattle.std.proofs.Common.{◌≡◌, ◌∙◌, ◌∷◌, ◌++◌, [], ℕ, Bool, true, false, List, Option, None, Some}
use Rattle.std.proofs.Common.{ap, drop, map, get_or, refl, sym}
use Rattle.std.specs.Prelude.{◌&&◌, not, is_some, if◌then◌else◌}
use Rattle.std.specs.Option.{option_map_or}
use Rattle.heap_words.specs.declared.config.Config.{Config}
use Rattle.heap_model.specs.Graph.{RootCounts}
use Rattle.root_table.specs.Roots.{root_counts_of}
use Rattle.heap_steps.specs.Roots.{Root, is_root, roots_in, is_there, are_there}
use Rattle.heap_steps.specs.Actors.{allows, has_root, has_row}
use Rattle.heap_steps.specs.Forms.{actions_grammar, collections_grammar, action_row, collection_row}
use Rattle.heap_steps.specs.declared.form.ActionVerb.{ActionVerb}
use Rattle.heap_steps.specs.declared.form.CollectionVerb.{CollectionVerb}
use Rattle.heap_steps.specs.declared.form.CollectionVerb.TheVariants as collections
use Rattle.heap_steps.specs.declared.form.Operand.{Operand}
use Rattle.heap_steps.specs.declared.form.Operand.TheVariants as operands
use Rattle.heap_steps.specs.declared.step.Action.{Action}
use Rattle.heap_steps.specs.declared.step.CollectorStep.{CollectorStep}
use Rattle.script_text.specs.declared.expected.Expected.{Expected}
use Rattle.script_text.specs.declared.expected.Expected.TheVariants as expected
use Rattle.script_text.specs.Expected.{action_form, collection_form, behind_verb, fits}
use Rattle.script_text.specs.Reading.{◌>>=◌, operand_of, operands_of, verb_by, verb_in, made_by, allowed_in, allowed_of, action_of}
use Rattle.script_text.specs.Reading.{collection_of}
use Rattle.script_text.proofs.BothWays.Grammars.{numbers_are}
use Rattle.script_text.proofs.BothWays.Actions.{actions_are}

-- whether all words fit their places
abbrev pub all_fit : Config → List Expected → List (List ℕ) → Bool
all_fit c [] words = true
all_fit c (p ∷ ps) words = fits c p words && all_fit c ps (drop 1 words)

and_true : (x : Bool) → x ≡ x && true
and_true true = refl
and_true false = refl

and_false : (x : Bool) → x && false ≡ false
and_false true = refl
and_false false = refl

-- the root of one more operand
one_root : (p : RootCounts) (k : Operand) (n : ℕ) (rs : List Root)
    → is_there p k n && are_there p rs ≡ are_there p (record { operand = k; number = n } ∷ rs)
one_root p k n [] = sym (and_true (is_there p k n))
one_root p k n (r ∷ rs) = refl

more_roots : (p : RootCounts) (k : Operand) (n : ℕ) (ks : List Operand) (ns : List ℕ)
    → is_there p k n && are_there p (roots_in ks ns) ≡ are_there p (roots_in (k ∷ ks) (n ∷ ns))
more_roots p operands.Small n ks ns = refl
more_roots p operands.Byte n ks ns = refl
more_roots p operands.Large n ks ns = refl
more_roots p k n ks ns = one_root p k n (roots_in ks ns)

-- whether words were read as operands, and a heap has the roots among them
abbrev all_there : Config → List Operand → Option (List ℕ) → Bool
all_there c ks None = false
all_there c ks (Some ns) = are_there (root_counts_of c) (roots_in ks ns)

operands_fit : (c : Config) (ks : List Operand) (ws : List (List ℕ))
    → all_fit c (map expected.Operand ks ++ expected.End ∷ []) ws ≡ all_there c ks (operands_of ks ws)
operands_fit c (k ∷ ks) (w ∷ ws) = go (operand_of k w) (operands_of ks ws) (operands_fit c ks ws)
  where
    go : (o : Option ℕ) (r : Option (List ℕ)) → all_fit c (map expected.Operand ks ++ expected.End ∷ []) ws ≡ all_there c ks r
        → option_map_or (λ n. has_root c k n) o false && all_fit c (map expected.Operand ks ++ expected.End ∷ []) ws
        ≡ all_there c (k ∷ ks) (o >>= λ n. r >>= λ ns. Some (n ∷ ns))
    go None r e = refl
    go (Some n) None e = rw e (and_false (has_root c k n))
    go (Some n) (Some ns) e = rw e (more_roots (root_counts_of c) k n ks ns)
operands_fit c [] [] = refl
operands_fit c _ _ = refl

made : {A : Type 0} (t : Bool) (a : A) → is_some {T = A} (if t then Some a else None) ≡ t
made true a = refl
made false a = refl

-- what may be after a mutator's verb, if the format has it
abbrev form : ActionVerb → Bool → Option (List Expected)
form v t = (if t then Some v else None) >>= λ u. Some (map expected.Operand (action_row u).operands)

abbrev action : ActionVerb → List ℕ → Action
action v ns = actions_grammar.make v (λ i. get_or ns i 0)

-- a mutator's verb, and the words after it
verb_fits : (c : Config) (v : ActionVerb) (args : List (List ℕ)) → is_some (allowed_in c (made_by actions_grammar v args))
    ≡ is_some (form v (has_row c.format (action_row v).third))
    && all_fit c (behind_verb (form v (has_row c.format (action_row v).third)) (expected.End ∷ [])) args
verb_fits c v args = go (operands_of (action_row v).operands args) refl (has_row c.format (action_row v).third) refl
  where
    all : (r : Option (List ℕ)) → operands_of (action_row v).operands args ≡ r
        → all_fit c (map expected.Operand (action_row v).operands ++ expected.End ∷ []) args ≡ all_there c (action_row v).operands r
    all r e = operands_fit c (action_row v).operands args ∙ ap (all_there c (action_row v).operands) e

    allowed : (ns : List ℕ) → operands_of (action_row v).operands args ≡ Some ns → (t : Bool) → has_row c.format (action_row v).third ≡ t
        → allows c (action v ns) ≡ all_there c (action_row v).operands (Some ns) && t
    allowed ns e t h =
        rw ((actions_are.rows v).2 (λ i. get_or ns i 0), numbers_are actions_grammar actions_are v args ns e, h) refl

    go : (r : Option (List ℕ)) → operands_of (action_row v).operands args ≡ r → (t : Bool) → has_row c.format (action_row v).third ≡ t
        → is_some (allowed_in c (r >>= λ ns. Some (action v ns)))
        ≡ is_some (form v t) && all_fit c (behind_verb (form v t) (expected.End ∷ [])) args
    go None e true h = sym (all None e)
    go None e false h = refl
    go (Some ns) e true h =
        made (allows c (action v ns)) (action v ns) ∙ allowed ns e true h
        ∙ sym (and_true (all_there c (action_row v).operands (Some ns))) ∙ sym (all (Some ns) e)
    go (Some ns) e false h =
        made (allows c (action v ns)) (action v ns) ∙ allowed ns e false h ∙ and_false (all_there c (action_row v).operands (Some ns))

-- a mutator's step is read where its words fit their places
pub reads_by : (c : Config) (word : List ℕ) (args : List (List ℕ)) → is_some (allowed_of c (word ∷ args))
    ≡ all_fit c (expected.Action ∷ behind_verb (action_form c.format word) (expected.End ∷ [])) (word ∷ args)
unfolding allowed_of action_of action_form
reads_by c word args = go (verb_by actions_grammar word)
  where
    go : (o : Option ActionVerb) → is_some (allowed_in c (o >>= λ v. made_by actions_grammar v args))
        ≡ is_some ((o >>= λ v. if has_row c.format (action_row v).third then Some v else None)
        >>= λ u. Some (map expected.Operand (action_row u).operands))
        && all_fit c (behind_verb ((o >>= λ v. if has_row c.format (action_row v).third then Some v else None)
        >>= λ u. Some (map expected.Operand (action_row u).operands)) (expected.End ∷ [])) args
    go None = refl
    go (Some v) = verb_fits c v args

-- no step of the collector names a root
abbrev are_numbers : List Operand → Bool
are_numbers [] = true
are_numbers (k ∷ ks) = not (is_root k) && are_numbers ks

no_roots : (ks : List Operand) (ns : List ℕ) → are_numbers ks ≡ true → roots_in ks ns ≡ []
no_roots (operands.Small ∷ ks) (n ∷ ns) e = no_roots ks ns e
no_roots (operands.Byte ∷ ks) (n ∷ ns) e = no_roots ks ns e
no_roots (operands.Large ∷ ks) (n ∷ ns) e = no_roots ks ns e
no_roots (k ∷ ks) (n ∷ ns) e = absurd cc
no_roots _ _ e = refl

numbers_alone : (v : CollectionVerb) → are_numbers (collection_row v).operands ≡ true
numbers_alone collections.Begin = refl
numbers_alone _ = refl

-- the collector's step is read where its words fit their places
pub collects_by : (c : Config) (word : List ℕ) (args : List (List ℕ)) → is_some (collection_of c.format (word ∷ args))
    ≡ all_fit c (expected.Collection ∷ behind_verb (collection_form c.format word) (expected.End ∷ [])) (word ∷ args)
unfolding collection_of collection_form
collects_by c word args = go (verb_in c.format collections_grammar word)
  where
    by : (v : CollectionVerb) (r : Option (List ℕ)) → operands_of (collection_row v).operands args ≡ r
        → is_some {T = CollectorStep} (r >>= λ ns. Some (collections_grammar.make v (λ i. get_or ns i 0)))
        ≡ all_there c (collection_row v).operands r
    by v None e = refl
    by v (Some ns) e = sym (ap (are_there (root_counts_of c)) (no_roots (collection_row v).operands ns (numbers_alone v)))

    go : (o : Option CollectionVerb) → is_some (o >>= λ v. made_by collections_grammar v args)
        ≡ is_some (o >>= λ v. Some (map expected.Operand (collection_row v).operands))
        && all_fit c (behind_verb (o >>= λ v. Some (map expected.Operand (collection_row v).operands)) (expected.End ∷ [])) args
    go None = refl
    go (Some v) = by v (operands_of (collection_row v).operands args) refl ∙ sym (operands_fit c (collection_row v).operands args)
