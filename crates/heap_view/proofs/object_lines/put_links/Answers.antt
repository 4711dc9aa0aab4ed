use Rattle.heap_dump.proofs.Putting.{adds_below}
use Rattle.heap_view.specs.Objects.{link_line}
use Rattle.heap_view.proofs.object_lines.put_links.Goals as goal

pub loop-index-preserved : goal.loop-index-preserved
loop-index-preserved c =
    adds_below (link_line c.args.weak c.args.core.now c.args.object) _ _ _ _ c.loop-index.invariant c.put_link.ensures
