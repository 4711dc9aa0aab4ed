use Rattle.std.proofs.Common.{◌+◌, take, length, ap, arith}
use Rattle.std.proofs.lemmas.List.{length-drop}
use Rattle.script_text.proofs.Parts.Pieces.{behind, behind_is, pieces_behind}
use Rattle.script_text.proofs.Reading.LeftSteps.{is_script, is_no_script, few_left}
use Rattle.script_text.proofs.read.script_steps.ScriptSteps.new.Goals as goal

pub returns-in-Ok-check_lines-clause-script : goal.returns-in-Ok-check_lines-clause-script
returns-in-Ok-check_lines-clause-script c =
    let text = c.args.text.now in
    let k = c.in-Ok.line.length in
    is_script text (take k text) (behind (k + 1) text) c.in-Ok.line.config (pieces_behind text k c.in-Ok.ensures.line)
    c.in-Ok.ensures.config c.in-Ok-check_lines.ensures.ok

pub returns-in-Ok-check_lines-clause-few : goal.returns-in-Ok-check_lines-clause-few
returns-in-Ok-check_lines-clause-few c =
    let text = c.args.text.now in
    let k = c.in-Ok.line.length in
    omega (
      arith,
      few_left c.in-Ok.line.config (behind (k + 1) text),
      ap length (behind_is (k + 1) text),
      length-drop (k + 1) text,
    )

pub returns-in-Err-check_lines-clause-script : goal.returns-in-Err-check_lines-clause-script
returns-in-Err-check_lines-clause-script c =
    let text = c.args.text.now in
    let k = c.in-Ok.line.length in
    is_no_script text (take k text) (behind (k + 1) text) c.in-Ok.line.config c.in-Err-check_lines.fault
    (pieces_behind text k c.in-Ok.ensures.line) c.in-Ok.ensures.config c.in-Err-check_lines.ensures.fault
