use Rattle.regions.proofs.Common.{arith, refl, ap, ◌∙◌, Row}
use Rattle.regions.proofs.Tiles.Making.{row_read, known}
use Rattle.regions.proofs.Tiles.Tops.{top_all}
use Rattle.regions.proofs.table.RegionTable.top.Goals as goal

pub overflow_mul-number : goal.overflow_mul-number
overflow_mul-number c =
    let t = top_all _ _ _ _ _ c.self.invariant.table c.self.view_is c.requires in
    rw c.number-number.ensures (omega (arith, t.room, c.self.invariant.table.small))

pub index-requires : goal.index-requires
index-requires c =
    let n = known _ _ _ _ _ c.self.view_is c.requires in
    omega (arith, n.in_rows, c.number-number.ensures)

pub overflow_add-number : goal.overflow_add-number
overflow_add-number c =
    let n = known _ _ _ _ _ c.self.view_is c.requires in
    let t = top_all _ _ _ _ _ c.self.invariant.table c.self.view_is c.requires in
    let read = row_read _ _ _ _ _ _ _ n c.number-number.ensures c.index.ensures in
    let used = ap (λ (row : Row). row.used) read in
    rw (c.number-number.ensures, used) (omega (arith, t.room, t.used_le, c.self.invariant.table.small))

pub returns : goal.returns
returns c =
    let n = known _ _ _ _ _ c.self.view_is c.requires in
    let t = top_all _ _ _ _ _ c.self.invariant.table c.self.view_is c.requires in
    let read = row_read _ _ _ _ _ _ _ n c.number-number.ensures c.index.ensures in
    let used = ap (λ (row : Row). row.used) read in
    c.new.ensures ∙ rw (c.number-number.ensures, used, n.size_is, t.used_is) refl
