use Rattle.std.proofs.Common.{◌≡◌, ◌∙◌, ◌∷◌, ◌+◌, ◌<◌, ap, sym, refl, arith, rules, length, take}
use Rattle.std.proofs.lemmas.List.{length-drop}
use Rattle.script_text.proofs.Reading.ReadOn.{script_items, no_steps, script_begins, goes_on, goes_wrong, is_done, is_cut, read_same}
use Rattle.script_text.proofs.Reading.Stops.{fault_is, step_line_never, one_less, stops}
use Rattle.script_text.proofs.Parts.Pieces.{behind, behind_is, pieces_behind, pieces_ended}
use Rattle.script_text.specs.Feeds.{end_of, line_of}
use Rattle.script_text.specs.Lines.{pieces_of}
use Rattle.heap_steps.specs.Actors.{StepList}
use Rattle.script_text.proofs.read.script.parse.Goals as goal

pub returns-in-Err : goal.returns-in-Err
returns-in-Err c =
    let f = c.in-Err.fault in
    fault_is f.kind f.line c.args.text.now _ c.in-Err.ensures.memory c.in-Err.ensures.fault

pub lines-init : goal.lines-init
lines-init c =
    let text = c.args.text.now in
    let k = c.in-Ok.line.length in
    let config = c.in-Ok.line.config in
    record {
      so_far = read_same (script_items config) _ (no_steps config) _ _ c.new-plan.ensures
          (script_begins text (take k text) (behind (k + 1) text) config (pieces_behind text k c.in-Ok.ensures.line)
          c.in-Ok.ensures.config);
      config = search rules;
      number = omega (arith, ap length (behind_is (k + 1) text), length-drop (k + 1) text);
      from = omega arith;
      count =
          let less = one_less 1 text (take k text) (behind (k + 1) text) (pieces_behind text k c.in-Ok.ensures.line) in
          omega arith;
    }

pub returns-in-Err-front_step : goal.returns-in-Err-front_step
returns-in-Err-front_step c =
    let rest = c.lines.rest.now in
    let after = behind (end_of rest + 1) rest in
    let piece : pieces_of rest ≡ line_of rest ∷ pieces_of after = pieces_ended rest (end_of rest) (c.lines-test.ensures.found refl) refl in
    fault_is c.in-Err-front_step.kind c.lines.number c.args.text.now _
    (step_line_never c.in-Ok.line.config (line_of rest) c.in-Err-front_step.kind c.in-Err-front_step.ensures.fault)
    (goes_wrong (script_items c.in-Ok.line.config) c.lines.plan c.lines.number rest (line_of rest) after c.in-Err-front_step.kind _
    piece c.in-Err-front_step.ensures.fault c.lines.invariant.so_far)

pub lines-preserved : goal.lines-preserved
lines-preserved c =
    let rest = c.lines.rest.now in
    let line = c.in-Ok-front_step.line in
    let after = behind (line.length + 1) rest in
    let ended : end_of rest < length rest = c.lines-test.ensures.found refl in
    let piece : pieces_of rest ≡ line_of rest ∷ pieces_of after = pieces_ended rest line.length ended c.in-Ok-front_step.ensures.length in
    let within : line.length < length rest = omega (arith, ended, c.in-Ok-front_step.ensures.length) in
    record {
      so_far = read_same (script_items c.in-Ok.line.config) _ _ _ _ c.in-Ok-push.ensures.ok
          (goes_on (script_items c.in-Ok.line.config) c.lines.plan c.lines.number rest (line_of rest) after line.step _
          piece c.in-Ok-front_step.ensures.step c.lines.invariant.so_far);
      config = ap (λ (p : StepList). p.config) c.in-Ok-push.ensures.ok ∙ c.lines.invariant.config;
      number = omega (arith, within, ap length (behind_is (line.length + 1) rest), length-drop (line.length + 1) rest);
      from = let from = c.lines.invariant.from in omega arith;
      count =
          let less = one_less c.lines.number rest (line_of rest) after piece in
          let count = c.lines.invariant.count in
          omega arith;
    }

pub returns-in_default : goal.returns-in_default
returns-in_default c =
    let rest = c.lines.rest.now in
    let after = behind (end_of rest + 1) rest in
    let piece : pieces_of rest ≡ line_of rest ∷ pieces_of after = pieces_ended rest (end_of rest) (c.lines-test.ensures.found refl) refl in
    stops (script_items c.in-Ok.line.config) c.lines.plan c.lines.number c.args.text.now rest (line_of rest) after _ _
    piece c.in-Ok-front_step.ensures.step c.lines.invariant.so_far c.lines.invariant.from c.lines.invariant.count

pub returns-then-is_empty : goal.returns-then-is_empty
returns-then-is_empty c = is_done (script_items c.in-Ok.line.config) c.lines.plan c.lines.number c.lines.rest.now _
    (c.lines-test.ensures.none refl) (sym c.is_empty.ensures ∙ c.if-is_empty.true) c.lines.invariant.so_far

pub returns-else-is_empty : goal.returns-else-is_empty
returns-else-is_empty c = is_cut (script_items c.in-Ok.line.config) c.lines.plan c.lines.number c.lines.rest.now _
    (c.lines-test.ensures.none refl) (sym c.is_empty.ensures ∙ c.if-is_empty.false) c.lines.invariant.so_far
