use Rattle.heap_dump.proofs.Putting.{adds_below}
use Rattle.heap_view.specs.SnapshotTexts.{root_edge}
use Rattle.heap_view.proofs.snapshot_lines.put_root_edges.Goals as goal

pub loop-place-preserved : goal.loop-place-preserved
loop-place-preserved c = adds_below (root_edge c.args.core.now) _ _ _ _ c.loop-place.invariant c.put_root_edge.ensures
