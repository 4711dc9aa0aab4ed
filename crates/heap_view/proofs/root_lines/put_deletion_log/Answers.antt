use Rattle.satb_log.specs.Logs.{log_of}
use Rattle.heap_dump.proofs.Putting.{adds_more}
use Rattle.heap_view.specs.Actors.{logged_text}
use Rattle.heap_view.proofs.root_lines.put_deletion_log.Goals as goal

pub loop-place-preserved : goal.loop-place-preserved
loop-place-preserved c =
    adds_more (logged_text c.args.table.now) (log_of c.args.logs.now c.args.mutator) _ _ _ _ _ c.logged.ensures c.loop-place.invariant
    c.put_spaced_pointer.ensures
