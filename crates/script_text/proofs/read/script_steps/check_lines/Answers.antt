use Rattle.std.proofs.Common.{◌≡◌, ◌<◌, ◌+◌, ◌∷◌, ◌∙◌, length, refl, sym, ap, arith}
use Rattle.std.proofs.lemmas.List.{length-drop}
use Rattle.script_text.specs.Feeds.{end_of, line_of}
use Rattle.script_text.specs.Lines.{pieces_of}
use Rattle.script_text.proofs.Parts.Pieces.{behind, behind_is, pieces_ended}
use Rattle.script_text.proofs.Reading.Stops.{step_line_never}
use Rattle.script_text.proofs.Reading.LeftSteps.{one_read, fails_at, ends_good, ends_cut}
use Rattle.script_text.proofs.read.script_steps.check_lines.Goals as goal

pub returns-in-Err-clause-fault : goal.returns-in-Err-clause-fault
returns-in-Err-clause-fault c =
    let rest = c.lines.rest.now in
    let after = behind (end_of rest + 1) rest in
    let piece : pieces_of rest ≡ line_of rest ∷ pieces_of after = pieces_ended rest (end_of rest) (c.lines-test.ensures.found refl) refl in
    fails_at c.args.config.now c.lines.number rest (line_of rest) after c.args.lines.now c.in-Err.kind piece c.in-Err.ensures.fault
    c.lines.invariant.so_far

pub returns-in-Err-clause-memory : goal.returns-in-Err-clause-memory
returns-in-Err-clause-memory c = step_line_never c.args.config.now (line_of c.lines.rest.now) c.in-Err.kind c.in-Err.ensures.fault

pub lines-preserved : goal.lines-preserved
lines-preserved c =
    let rest = c.lines.rest.now in
    let line = c.in-Ok.line in
    let after = behind (line.length + 1) rest in
    let ended : end_of rest < length rest = c.lines-test.ensures.found refl in
    let piece : pieces_of rest ≡ line_of rest ∷ pieces_of after = pieces_ended rest line.length ended c.in-Ok.ensures.length in
    let within : line.length < length rest = omega (arith, ended, c.in-Ok.ensures.length) in
    record {
      so_far = one_read c.args.config.now c.lines.number rest (line_of rest) after c.args.lines.now line.step piece
          c.in-Ok.ensures.step c.lines.invariant.so_far;
      number =
          let number = c.lines.invariant.number in
          omega (arith, number, within, ap length (behind_is (line.length + 1) rest), length-drop (line.length + 1) rest);
    }

pub returns-then-is_empty-clause-ok : goal.returns-then-is_empty-clause-ok
returns-then-is_empty-clause-ok c = ends_good c.args.config.now c.lines.number c.lines.rest.now c.args.lines.now
    (c.lines-test.ensures.none refl) (sym c.is_empty.ensures ∙ c.if-is_empty.true) c.lines.invariant.so_far

pub returns-else-is_empty-clause-fault : goal.returns-else-is_empty-clause-fault
returns-else-is_empty-clause-fault c = ends_cut c.args.config.now c.lines.number c.lines.rest.now c.args.lines.now
    (c.lines-test.ensures.none refl) (sym c.is_empty.ensures ∙ c.if-is_empty.false) c.lines.invariant.so_far
