-- The grammars of mutators' actions and of the collector's steps: each verb's row, and that what is spelled is read.
use Rattle.std.proofs.Common.{◌≡◌, ◌∷◌, ℕ, zero, suc, List, [], get_or, Some, None, refl, ap}
use Rattle.heap_steps.specs.Forms.{actions_grammar, collections_grammar, value_number, numbered_value}
use Rattle.heap_steps.specs.declared.form.ActionVerb.{ActionVerb}
use Rattle.heap_steps.specs.declared.form.ActionVerb.TheVariants as verbs
use Rattle.heap_steps.specs.declared.form.CollectionVerb.{CollectionVerb}
use Rattle.heap_steps.specs.declared.form.CollectionVerb.TheVariants as collections
use Rattle.heap_steps.specs.declared.step.Action.{Action}
use Rattle.heap_steps.specs.declared.step.Action.TheVariants as actions
use Rattle.heap_steps.specs.declared.step.CollectorStep.{CollectorStep}
use Rattle.heap_steps.specs.declared.step.CollectorStep.TheVariants as collector
use Rattle.script_text.specs.Fits.{Fits}
use Rattle.script_text.specs.Reading.{action_of}
use Rattle.script_text.specs.Spelling.{action_words}
use Rattle.script_text.proofs.BothWays.Grammars.{IsRow, IsGrammar, read_again, read_is}

value_same : (n : ℕ) → value_number (numbered_value n) ≡ n
value_same zero = refl
value_same (suc n) = refl

stored : (a b c d : ℕ) → c ≡ d → a ∷ b ∷ c ∷ [] ≡ a ∷ b ∷ d ∷ []
stored a b c d e = ap (λ (n : ℕ). a ∷ b ∷ n ∷ []) e

action_rows : (v : ActionVerb) → IsRow actions_grammar v
action_rows verbs.Put = (refl, refl, (λ n. refl), (λ n. stored (n 0) (n 1) _ (n 2) (value_same (n 2))))
action_rows verbs.PutWeak = (refl, refl, (λ n. refl), (λ n. stored (n 0) (n 1) _ (n 2) (value_same (n 2))))
action_rows _ = (refl, refl, (λ n. refl), (λ n. refl))

action_made : (a : Action) → actions_grammar.make (actions_grammar.verb a) (λ i. get_or (actions_grammar.numbers a) i 0) ≡ a
action_made (actions.Put object i None) = refl
action_made (actions.PutWeak object i None) = refl
action_made _ = refl

pub actions_are : IsGrammar actions_grammar
actions_are = record { rows = action_rows; made = action_made }

collection_rows : (v : CollectionVerb) → IsRow collections_grammar v
collection_rows collections.Begin = (refl, refl, (λ n. refl), (λ n. refl))
collection_rows _ = (refl, refl, (λ n. refl), (λ n. refl))

collection_made : (k : CollectorStep)
    → collections_grammar.make (collections_grammar.verb k) (λ i. get_or (collections_grammar.numbers k) i 0) ≡ k
collection_made collector.Begin = refl
collection_made _ = refl

pub collections_are : IsGrammar collections_grammar
collections_are = record { rows = collection_rows; made = collection_made }

-- what is spelled so is read so
pub action_again : (a : Action) → Fits a → action_of (action_words a) ≡ Some a
unfolding action_of
action_again a fits = read_again actions_grammar actions_are a fits

-- what is read is spelled so
pub action_is : (ws : List (List ℕ)) (a : Action) → action_of ws ≡ Some a → (ws ≡ action_words a) × Fits a
unfolding action_of
action_is ws a e = read_is actions_grammar actions_are ws a e
