use Rattle.std.proofs.Common.{◌≡◌, subst}
use Rattle.std.specs.Prelude.{IfSome}
use Rattle.regions.specs.Table.{Table, object_at}
use Rattle.step_core.proofs.Objects.{has_name}
use Rattle.heap_dump.proofs.Putting.{then_adds, adds_at}
use Rattle.heap_dump.specs.Fields.{named_text}
use Rattle.heap_dump.specs.declared.fields.Spelling.TheVariants.{Lines}
use Rattle.heap_view.proofs.tile_lines.put_object.Goals as goal

pub returns : goal.returns
returns c =
    let named = has_name (object_at c.args.core.now.table c.args.object) c.name.result c.requires.object
    (subst (λ (t : Table). IfSome (object_at t c.args.object) (λ s. c.name.result ≡ s.name)) c.table-table.ensures c.name.ensures) in
    then_adds _ _ _ _ _ (then_adds _ _ _ _ _ (then_adds _ _ _ _ _
    (adds_at (named_text Lines c.args.object) _ _ _ _ named (then_adds _ _ _ _ _ c.put.ensures c.put_digits.ensures))
    c.put_fields.ensures)
    c.put_keeping.ensures) c.put_progress.ensures
