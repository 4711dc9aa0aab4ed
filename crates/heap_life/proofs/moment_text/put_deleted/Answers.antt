use Rattle.std.proofs.Common.{◌∙◌, sym}
use Rattle.satb_log.specs.Logs.{log_of}
use Rattle.script_text.specs.Texts.{spaced_number}
use Rattle.heap_dump.proofs.Putting.{adds_at, adds_more}
use Rattle.heap_life.proofs.moment_text.put_deleted.Goals as goal

pub loop-place-preserved : goal.loop-place-preserved
loop-place-preserved c =
    adds_more spaced_number (log_of c.args.logs.now c.args.mutator) _ _ _ _ _ c.logged.ensures c.loop-place.invariant
    (adds_at spaced_number _ _ _ _ (sym (c.from.ensures ∙ c.word.ensures)) c.put_number.ensures)
