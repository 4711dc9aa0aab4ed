use Rattle.std.proofs.Common.{◌+◌, take, length, ap, arith}
use Rattle.std.proofs.lemmas.List.{length-drop}
use Rattle.script_text.proofs.Parts.Pieces.{behind, behind_is, pieces_behind}
use Rattle.script_text.proofs.Reading.LeftEvents.{is_history, few_left}
use Rattle.script_text.proofs.read.record_events.RecordEvents.new.Goals as goal

pub returns-in-Ok-clause-history : goal.returns-in-Ok-clause-history
returns-in-Ok-clause-history c =
    let text = c.args.text.now in
    let k = c.in-Ok.line.length in
    is_history text (take k text) (behind (k + 1) text) c.in-Ok.line.config (pieces_behind text k c.in-Ok.ensures.line)
    c.in-Ok.ensures.config

pub returns-in-Ok-clause-few : goal.returns-in-Ok-clause-few
returns-in-Ok-clause-few c =
    let text = c.args.text.now in
    let k = c.in-Ok.line.length in
    omega (
      arith,
      few_left 1 c.in-Ok.line.config (behind (k + 1) text),
      ap length (behind_is (k + 1) text),
      length-drop (k + 1) text,
    )
