use Rattle.std.proofs.Common.{sym}
use Rattle.std.specs.Fmt.{decimal}
use Rattle.heap_dump.proofs.Putting.{adds_at, then_adds}
use Rattle.heap_view.proofs.snapshot_lines.put_shape.Goals as goal

pub returns : goal.returns
returns c =
    then_adds _ _ _ _ _ (then_adds _ _ _ _ _ (then_adds _ _ _ _ _ (then_adds _ _ _ _ _ (then_adds _ _ _ _ _ (then_adds _ _ _ _ _
    (then_adds _ _ _ _ _ c.put.ensures
    (adds_at decimal _ _ _ _ (sym c.from.ensures) c.put_digits.ensures))
    c.put-2.ensures)
    (adds_at decimal _ _ _ _ (sym c.from-2.ensures) c.put_digits-2.ensures))
    c.put-3.ensures)
    (adds_at decimal _ _ _ _ (sym c.from-3.ensures) c.put_digits-3.ensures))
    c.put-4.ensures)
    c.put_first.ensures
