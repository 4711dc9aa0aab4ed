use Rattle.heap_dump.proofs.Putting.{then_adds}
use Rattle.heap_view.proofs.region_lines.put_lines.Goals as goal

pub returns : goal.returns
returns c =
    then_adds _ _ _ _ _ (then_adds _ _ _ _ _ (then_adds _ _ _ _ _ (then_adds _ _ _ _ _ (then_adds _ _ _ _ _ (then_adds _ _ _ _ _
    c.put_use.ensures c.put.ensures) c.put_tops.ensures) c.put_live.ensures) c.put-2.ensures) c.put_set.ensures) c.put_tiles.ensures
