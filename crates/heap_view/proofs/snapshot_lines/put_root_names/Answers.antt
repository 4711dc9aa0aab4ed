use Rattle.heap_dump.proofs.Putting.{adds_below}
use Rattle.heap_view.specs.SnapshotTexts.{root_name}
use Rattle.heap_view.proofs.snapshot_lines.put_root_names.Goals as goal

pub loop-place-preserved : goal.loop-place-preserved
loop-place-preserved c = adds_below (root_name c.args.core.now) _ _ _ _ c.loop-place.invariant c.put_root_name.ensures
