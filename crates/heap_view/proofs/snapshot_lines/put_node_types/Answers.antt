use Rattle.heap_dump.proofs.Putting.{then_adds}
use Rattle.heap_view.proofs.snapshot_lines.put_node_types.Goals as goal

pub returns : goal.returns
returns c =
    then_adds _ _ _ _ _ c.put.ensures
    c.put-2.ensures
