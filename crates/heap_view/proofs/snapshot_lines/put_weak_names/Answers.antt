use Rattle.heap_dump.proofs.Putting.{adds_below}
use Rattle.heap_view.specs.SnapshotTexts.{weak_name}
use Rattle.heap_view.proofs.snapshot_lines.put_weak_names.Goals as goal

pub loop-index-preserved : goal.loop-index-preserved
loop-index-preserved c = adds_below weak_name _ _ _ _ c.loop-index.invariant c.put_weak_name.ensures
