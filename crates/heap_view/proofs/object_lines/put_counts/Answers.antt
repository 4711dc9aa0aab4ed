use Rattle.std.proofs.Common.{◌∙◌, ap, length, sym}
use Rattle.std.specs.Fmt.{decimal}
use Rattle.regions.specs.Table.{Table, values_at}
use Rattle.heap_dump.proofs.Putting.{adds_at, then_adds}
use Rattle.heap_view.proofs.object_lines.put_counts.Goals as goal

pub returns : goal.returns
returns c =
    let values = c.from-3.ensures ∙ c.value_count.ensures ∙ ap (λ (t : Table). length (values_at t c.args.object)) c.table.ensures in
    then_adds _ _ _ _ _ (then_adds _ _ _ _ _ (then_adds _ _ _ _ _ (then_adds _ _ _ _ _ (then_adds _ _ _ _ _ c.put.ensures
    (adds_at decimal _ _ _ _ (sym (c.from.ensures ∙ c.links.ensures)) c.put_digits.ensures))
    c.put-2.ensures)
    (adds_at decimal _ _ _ _ (sym (c.from-2.ensures ∙ c.links-2.ensures)) c.put_digits-2.ensures))
    c.put-3.ensures)
    (adds_at decimal _ _ _ _ (sym values) c.put_digits-3.ensures)
