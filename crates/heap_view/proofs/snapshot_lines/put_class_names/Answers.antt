use Rattle.heap_dump.proofs.Putting.{adds_more}
use Rattle.heap_view.specs.SnapshotTexts.{class_name}
use Rattle.heap_view.proofs.KeptStarts.{item_at}
use Rattle.heap_view.proofs.snapshot_lines.put_class_names.Goals as goal

pub loop-class-preserved : goal.loop-class-preserved
loop-class-preserved c =
    adds_more (class_name c.args.types.now) c.args.classes.now c.loop-class.class-index _ _ _ _
    (item_at c.args.classes.now c.loop-class.class-index (record { pointers = 0; weaks = 0; values = 0; word = 0 }) c.loop-class-test.true)
    c.loop-class.invariant c.put_class_name.ensures
