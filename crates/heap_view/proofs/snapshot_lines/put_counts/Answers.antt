use Rattle.heap_dump.proofs.Putting.{then_adds}
use Rattle.heap_view.proofs.snapshot_lines.put_counts.Goals as goal

pub returns : goal.returns
returns c =
    then_adds _ _ _ _ _ (then_adds _ _ _ _ _ (then_adds _ _ _ _ _ (then_adds _ _ _ _ _ c.put.ensures
    c.put_digits.ensures)
    c.put-2.ensures)
    c.put_digits-2.ensures)
    c.put-3.ensures
