use Rattle.std.proofs.Common.{◌≡◌, ◌≤◌, ◌∷◌, ◌∙◌, List, ℕ, Option, None, Some, ap, length, arith}
use Rattle.std.specs.Prelude.{IfSome}
use Rattle.std.proofs.lemmas.List.{length-take-le, append-nil}
use Rattle.std.specs.Fmt.{decimal}
use Rattle.heap_words.specs.declared.config.Config.{Config}
use Rattle.heap_steps.specs.Actors.{IsStep}
use Rattle.script_text.specs.declared.read.script.StepLine.{StepLine}
use Rattle.script_text.specs.Feeds.{end_of, line_of}
use Rattle.script_text.specs.Lines.{words_of}
use Rattle.script_text.specs.Spelling.{action_words}
use Rattle.script_text.proofs.BothWays.StepsSpelled.{op_line_again}
use Rattle.script_text.proofs.read.usual.usual_step.Goals as goal

pub returns-clause-step : goal.returns-clause-step
returns-clause-step g c =
    let text = c.args.text.now in
    let mutator = c.in-Some.mutator in
    let last = c.in_ok-action.field-0 in
    let ends = c.in_ok-action.ensures in
    let long : length (line_of text) ≡ end_of text = length-take-le (end_of text) text (omega (arith, c.requires.ended)) in
    let short : length (line_of text) ≤ 120 = omega (arith, c.if-past-gt-LONGEST_LINE.false, ends.ends, c.in_ok-action.past-is) in
    let words : words_of (line_of text) ≡ decimal mutator.value ∷ action_words last.value =
    c.in-Some.ensures.0.words
    ∙ ap (λ (ws : List (List ℕ)). decimal mutator.value ∷ ws) (ends.words ∙ append-nil (action_words last.value)) in
    op_line_again c.args.config.now (line_of text) (record { mutator = mutator.value; action = last.value }) short words
    c.in-Some.ensures.1 (ends.owned mutator.value c.if-mutator-config.false) ends.fits

-- a step of any heap is one of this
known_here : (c : Config) (r : Option StepLine) → IfSome r (λ l. (any : Config) → IsStep any l.step) → IfSome r (λ l. IsStep c l.step)
known_here c None known = tt
known_here c (Some l) known = known c

pub returns-in_default-clause-known : goal.returns-in_default-clause-known
returns-in_default-clause-known g c = known_here c.args.config.now c.collection_line.result c.collection_line.ensures.known
