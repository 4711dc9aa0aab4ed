use Rattle.regions.proofs.Common.{arith, ◌≡◌, suc, ◌+◌, drop, sym, ap, ◌∙◌, length-drop}
use Rattle.regions.proofs.Rows.Fronts.{front_le}
use Rattle.regions.proofs.Tiles.Making.{known}
use Rattle.regions.proofs.LongRuns.RunGone.{rests_counted, rest, rows_small, run_length-is}
use Rattle.regions.proofs.table.RegionTable.run_length.Goals as goal

pub rests_from-requires : goal.rests_from-requires
rests_from-requires c =
    let k = known _ _ _ _ c.args.region c.self.view_is c.requires in
    let inside = k.in_rows in
    rw c.deref.ensures.value (omega (arith, inside, c.number.ensures))

pub overflow_cast-result : goal.overflow_cast-result
overflow_cast-result c =
    let front = front_le rest (drop (c.number.result + 1) c.self.inside.rows.items) in
    let count = rw c.deref.ensures.value at c.rests_from.ensures in
    omega (arith, count, front, length-drop (c.number.result + 1) c.self.inside.rows.items, rows_small _ _ _ c.self.invariant.table)

pub overflow_add-result : goal.overflow_add-result
overflow_add-result c =
    let front = front_le rest (drop (c.number.result + 1) c.self.inside.rows.items) in
    let count = rw c.deref.ensures.value at c.rests_from.ensures in
    omega (arith, count, front, length-drop (c.number.result + 1) c.self.inside.rows.items, rows_small _ _ _ c.self.invariant.table)

pub returns : goal.returns
returns c =
    let count = rests_counted c.self.inside.rows.items _ c.args.region _ c.number.ensures
    (rw c.deref.ensures.value at c.rests_from.ensures) in
    let one : 1 + c.rests_from.result ≡ suc c.rests_from.result = omega arith in
    one ∙ ap suc count ∙ sym (run_length-is _ _ _ _ c.args.region c.self.view_is)
