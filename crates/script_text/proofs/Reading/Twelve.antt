-- Twelve words of a line tell as much as all.
use Rattle.std.proofs.Common.{◌≡◌, ℕ, ◌≤◌, List, [], ◌∷◌, Some, None, Ok, Err, length, take, refl, sym, ap, ◌∙◌, arith}
use Rattle.std.proofs.lemmas.Bool.{le-ltb}
use Rattle.std.specs.Prelude.{nat_lt, false}
use Rattle.heap_words.specs.declared.config.Config.{Config}
use Rattle.heap_words.specs.declared.config.Format.{Format}
use Rattle.heap_steps.specs.Forms.{actions_grammar, collections_grammar}
use Rattle.script_text.specs.declared.fault.Kind.TheVariants as kinds
use Rattle.script_text.specs.Reading.{verb_by, verb_in, action_of, allowed_of, collection_of, sizes_of}
use Rattle.script_text.specs.Lines.{words_of, step_of, heap_line_of, step_line_of}
use Rattle.script_text.proofs.BothWays.Grammars.{never_read}
use Rattle.script_text.proofs.BothWays.Actions.{actions_are, collections_are}

-- more than five words are no step
pub no_long_action : (c : Config) (ws : List (List ℕ)) → 6 ≤ length ws → allowed_of c ws ≡ None
unfolding allowed_of action_of
no_long_action c [] many = absurd (omega (arith, many))
no_long_action c (w ∷ ws) many =
    rw (never_read actions_grammar actions_are (verb_by actions_grammar w) ws (omega (arith, many))) refl

pub no_long_collection : (f : Format) (ws : List (List ℕ)) → 6 ≤ length ws → collection_of f ws ≡ None
unfolding collection_of
no_long_collection f [] many = refl
no_long_collection f (w ∷ ws) many =
    never_read collections_grammar collections_are (verb_in f collections_grammar w) ws (omega (arith, many))

step_of_twelve : (c : Config) (ws : List (List ℕ)) → step_of c (take 12 ws) ≡ step_of c ws
unfolding step_of
step_of_twelve c (a ∷ b ∷ d ∷ e ∷ f ∷ g ∷ h ∷ ws) =
    rw (
      no_long_collection c.format (b ∷ d ∷ e ∷ f ∷ g ∷ h ∷ take 5 ws) (omega arith),
      no_long_collection c.format (b ∷ d ∷ e ∷ f ∷ g ∷ h ∷ ws) (omega arith),
      no_long_action c (b ∷ d ∷ e ∷ f ∷ g ∷ h ∷ take 5 ws) (omega arith),
      no_long_action c (b ∷ d ∷ e ∷ f ∷ g ∷ h ∷ ws) (omega arith),
    ) refl
step_of_twelve c _ = refl

heap_of_twelve : (ws : List (List ℕ)) → sizes_of (take 12 ws) ≡ sizes_of ws
unfolding sizes_of
heap_of_twelve (a ∷ b ∷ d ∷ e ∷ f ∷ g ∷ h ∷ i ∷ j ∷ k ∷ ws) = refl
heap_of_twelve _ = refl

short : (line : List ℕ) → length line ≤ 120 → nat_lt 120 (length line) ≡ false
short line le = le-ltb 120 (length line) le

pub step_line_is : (c : Config) (line : List ℕ) (ws : List (List ℕ)) → length line ≤ 120
    → ws ≡ take 12 (words_of line) → step_of c ws ≡ step_line_of c line
unfolding step_line_of
step_line_is c line ws le twelve = rw (short line le) (ap (step_of c) twelve ∙ step_of_twelve c (words_of line))

pub heap_line_some : (line : List ℕ) (c : Config) (ws : List (List ℕ)) → length line ≤ 120 → ws ≡ take 12 (words_of line)
    → sizes_of ws ≡ Some c → Ok c ≡ heap_line_of line
unfolding heap_line_of
heap_line_some line c ws le twelve read =
    let all : sizes_of (words_of line) ≡ Some c = sym (ap sizes_of twelve ∙ heap_of_twelve (words_of line)) ∙ read in
    rw (short line le, all) refl

pub heap_line_none : (line : List ℕ) (ws : List (List ℕ)) → length line ≤ 120 → ws ≡ take 12 (words_of line)
    → sizes_of ws ≡ None → Err kinds.BadHeap ≡ heap_line_of line
unfolding heap_line_of
heap_line_none line ws le twelve read =
    let all : sizes_of (words_of line) ≡ None = sym (ap sizes_of twelve ∙ heap_of_twelve (words_of line)) ∙ read in
    rw (short line le, all) refl
