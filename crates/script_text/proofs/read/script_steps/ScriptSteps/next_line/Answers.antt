use Rattle.std.proofs.Common.{◌≡◌, ◌∷◌, ◌+◌, ◌∙◌, ℕ, length, take, refl, sym, ap, arith}
use Rattle.heap_steps.specs.Actors.{StepList}
use Rattle.script_text.specs.Feeds.{end_of, line_of}
use Rattle.script_text.specs.Lines.{pieces_of}
use Rattle.script_text.proofs.BothWays.StepsRead.{step_line_is, step_line_short}
use Rattle.script_text.proofs.Parts.Pieces.{behind, pieces_ended}
use Rattle.script_text.proofs.Reading.LeftSteps.{first_left, none_wrong, none_left}
use Rattle.script_text.proofs.read.script_steps.ScriptSteps.next_line.Goals as goal

pub returns-then-not-has_feed-clause-none : goal.returns-then-not-has_feed-clause-none
returns-then-not-has_feed-clause-none c =
    ap (λ (s : StepList). s.steps) (sym c.self.view_is)
    ∙ none_left c.self.inside.config c.self.inside.lines.now (c.has_feed.ensures.none c.if-not-has_feed.true)

pub returns-in_default-clause-none : goal.returns-in_default-clause-none
returns-in_default-clause-none c =
    let rest = c.self.inside.lines.now in
    let after = behind (end_of rest + 1) rest in
    let piece : pieces_of rest ≡ line_of rest ∷ pieces_of after =
    pieces_ended rest (end_of rest) (c.if-not-has_feed.ensures.found refl) refl in
    absurd (none_wrong c.self.inside.config rest (line_of rest) after c.in_default.field-0 piece c.in_default.ensures.fault
    c.self.invariant)

pub invariant_of-self : goal.invariant_of-self
invariant_of-self c =
    let rest = c.self.inside.lines.now in
    let line = c.in-Ok.line in
    let after = behind (line.length + 1) rest in
    let piece : pieces_of rest ≡ line_of rest ∷ pieces_of after =
    pieces_ended rest line.length (c.if-not-has_feed.ensures.found refl) c.in-Ok.ensures.length in
    (first_left c.self.inside.config rest (line_of rest) after line.step piece c.in-Ok.ensures.step c.self.invariant).0

pub returns-clause-some : goal.returns-clause-some
returns-clause-some c =
    let rest = c.self.inside.lines.now in
    let line = c.in-Ok.line in
    let after = behind (line.length + 1) rest in
    let piece : pieces_of rest ≡ line_of rest ∷ pieces_of after =
    pieces_ended rest line.length (c.if-not-has_feed.ensures.found refl) c.in-Ok.ensures.length in
    ap (λ (s : StepList). s.steps) (sym c.self.view_is)
    ∙ (first_left c.self.inside.config rest (line_of rest) after line.step piece c.in-Ok.ensures.step c.self.invariant).1

pub returns-clause-line : goal.returns-clause-line
returns-clause-line c =
    let rest = c.self.inside.lines.now in
    let line = c.in-Ok.line in
    ap (λ (k : ℕ). take k rest) c.in-Ok.ensures.length
    ∙ (step_line_is c.self.inside.config (line_of rest) line.step c.in-Ok.ensures.step).spelled

pub returns-clause-short : goal.returns-clause-short
returns-clause-short c =
    let rest = c.self.inside.lines.now in
    let short = step_line_short c.self.inside.config (line_of rest) c.in-Ok.line.step c.in-Ok.ensures.step in
    omega (arith, ap (λ (k : ℕ). length (take k rest)) c.in-Ok.ensures.length)
