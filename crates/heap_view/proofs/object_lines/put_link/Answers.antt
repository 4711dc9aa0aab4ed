use Rattle.std.proofs.Common.{None, Option, List, ℕ, sym}
use Rattle.std.proofs.lemmas.Option.{get_or_from_slice_get}
use Rattle.regions.specs.Table.{Table}
use Rattle.heap_dump.specs.Fields.{pointer_text}
use Rattle.heap_dump.specs.declared.fields.Spelling.TheVariants.{Lines}
use Rattle.heap_dump.proofs.Putting.{adds_at, then_adds}
use Rattle.heap_walk.specs.Holders.{links_at}
use Rattle.heap_view.specs.Objects.{field_front}
use Rattle.heap_view.proofs.object_lines.put_link.Goals as goal

pub returns : goal.returns
returns c =
    let links = links_at c.args.weak c.args.core.now c.args.object in
    then_adds _ _ _ _ _ (then_adds _ _ _ _ _
    (adds_at (λ (kind : List ℕ). field_front kind c.args.index) _ _ _ _ (sym c.link_kind.ensures) c.put_front.ensures)
    (adds_at (λ (p : Option ℕ). pointer_text Lines c.args.core.now.table p) _ _ _ _
    (get_or_from_slice_get links c.args.index c.link_at-link.result None c.link_at-link.ensures)
    (adds_at (λ (t : Table). pointer_text Lines t c.link_at-link.result) _ _ _ _ (sym c.table.ensures) c.put_pointer.ensures)))
    c.put.ensures
