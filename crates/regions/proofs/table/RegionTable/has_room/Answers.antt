use Rattle.regions.proofs.Common.{arith, refl, ap, ◌∙◌, Row}
use Rattle.regions.proofs.Tiles.Making.{row_read, known, top_is}
use Rattle.regions.proofs.table.RegionTable.has_room.Goals as goal

pub index-requires : goal.index-requires
index-requires c =
    let n = known _ _ _ _ _ c.self.view_is c.requires.known in
    omega (arith, n.in_rows, c.number.ensures)

pub returns : goal.returns
returns c =
    let n = known _ _ _ _ _ c.self.view_is c.requires.known in
    let t = top_is _ _ _ _ _ c.self.invariant.table c.self.view_is c.requires.known c.requires.ordinary in
    let read = row_read _ _ _ _ _ _ _ n c.number.ensures c.index.ensures in
    let used = ap (λ (row : Row). row.used) read ∙ t.used_is in
    rw (c.from.ensures, c.from-2.ensures, c.from-3.ensures, used, n.size_is) refl
