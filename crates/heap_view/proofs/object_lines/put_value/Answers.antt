use Rattle.std.specs.Fmt.{decimal}
use Rattle.std.proofs.lemmas.Option.{get_or_from_slice_get}
use Rattle.std.proofs.Common.{◌∙◌, ap, sym}
use Rattle.std.specs.Prelude.{slice_index_or}
use Rattle.regions.specs.Table.{Table, values_at}
use Rattle.heap_dump.proofs.Putting.{adds_at, then_adds}
use Rattle.heap_view.proofs.object_lines.put_value.Goals as goal

pub returns : goal.returns
returns c =
    let value = ap (λ (t : Table). slice_index_or (values_at t c.args.object) c.args.field 0) (sym c.table.ensures)
    ∙ get_or_from_slice_get (values_at c.table.result.now c.args.object) c.args.field c.get_value-value.result 0
    c.get_value-value.ensures in
    then_adds _ _ _ _ _ (then_adds _ _ _ _ _ c.put_front.ensures (adds_at decimal _ _ _ _ value c.put_digits.ensures)) c.put.ensures
