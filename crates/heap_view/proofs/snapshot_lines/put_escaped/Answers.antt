use Rattle.heap_dump.proofs.Putting.{adds_more}
use Rattle.heap_view.specs.Types.{escaped_byte}
use Rattle.heap_view.proofs.KeptStarts.{item_at}
use Rattle.heap_view.proofs.snapshot_lines.put_escaped.Goals as goal

pub loop-byte-preserved : goal.loop-byte-preserved
loop-byte-preserved c =
    adds_more escaped_byte c.args.name.now c.loop-byte.byte-index _ _ _ _
    (item_at c.args.name.now c.loop-byte.byte-index 0 c.loop-byte-test.true)
    c.loop-byte.invariant c.put_escaped_byte.ensures
