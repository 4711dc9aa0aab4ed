use Rattle.std.proofs.Common.{refl}
use Rattle.heap_dump.proofs.Putting.{adds_below}
use Rattle.heap_walk.proofs.Entries.{kept_there}
use Rattle.heap_view.specs.SnapshotTexts.{link_edge}
use Rattle.heap_view.proofs.snapshot_lines.put_link_edges.Goals as goal

pub links-index-end-requires : goal.links-index-end-requires
links-index-end-requires c = kept_there c.args.core.now c.args.core.now.table c.args.object refl c.requires.kept

pub loop-index-preserved : goal.loop-index-preserved
loop-index-preserved c =
    adds_below (link_edge c.args.weak c.args.core.now c.args.numbering.now.classes.items c.args.object) _ _ _ _
    c.loop-index.invariant c.put_link_edge.ensures
