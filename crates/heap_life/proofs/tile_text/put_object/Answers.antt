use Rattle.std.proofs.Common.{◌≡◌, subst}
use Rattle.std.specs.Prelude.{IfSome}
use Rattle.heap_model.specs.Heap.{Stored}
use Rattle.regions.specs.Table.{Table, object_at}
use Rattle.heap_life.proofs.NamedRoots.{object_told}
use Rattle.heap_dump.proofs.Putting.{adds_as, then_adds}
use Rattle.heap_life.proofs.tile_text.put_object.Goals as goal

pub returns : goal.returns
returns c =
    let named = subst (λ (t : Table). IfSome (object_at t c.args.object) (λ (s : Stored). c.name.result ≡ s.name)) c.table-table.ensures
    c.name.ensures in
    object_told c.args.core.now c.args.object c.args.part c.name.result _ c.requires named _ _
    (then_adds _ _ _ _ _ (then_adds _ _ _ _ _ (then_adds _ _ _ _ _ (then_adds _ _ _ _ _ (c.put_digits.ensures)
    (c.put.ensures))
    (adds_as _ _ _ _ c.letter.ensures c.put-2.ensures))
    c.put_progress.ensures)
    c.put_fields.ensures)
