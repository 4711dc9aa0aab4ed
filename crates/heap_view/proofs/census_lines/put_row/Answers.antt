use Rattle.heap_dump.proofs.Putting.{then_adds}
use Rattle.heap_view.proofs.census_lines.put_row.Goals as goal

pub returns : goal.returns
returns c =
    then_adds _ _ _ _ _ (then_adds _ _ _ _ _ (then_adds _ _ _ _ _ (then_adds _ _ _ _ _ (then_adds _ _ _ _ _ (then_adds _ _ _ _ _
    c.put_column.ensures
    c.put.ensures)
    c.put_column-2.ensures)
    c.put-2.ensures)
    c.put_class.ensures)
    c.put_type.ensures)
    c.put-3.ensures
