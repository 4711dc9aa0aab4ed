use Rattle.regions.proofs.Common.{arith}
use Rattle.regions.proofs.Words.HeldSlots.{fields_counted}
use Rattle.regions.proofs.table.RegionTable.held_count.Goals as goal

pub overflow_sub-result : goal.overflow_sub-result
overflow_sub-result c =
    let all = fields_counted c.args.self.now c.args.object c.requires in
    omega (arith, all, c.field_count.ensures, c.pointer_count.ensures)

pub overflow_sub-result-2 : goal.overflow_sub-result-2
overflow_sub-result-2 c =
    let all = fields_counted c.args.self.now c.args.object c.requires in
    omega (arith, all, c.field_count.ensures, c.pointer_count.ensures, c.weak_count.ensures)

pub returns : goal.returns
returns c =
    let all = fields_counted c.args.self.now c.args.object c.requires in
    omega (arith, all, c.field_count.ensures, c.pointer_count.ensures, c.weak_count.ensures)
