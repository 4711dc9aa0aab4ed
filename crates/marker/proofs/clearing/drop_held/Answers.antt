use Rattle.std.proofs.Common.{arith, ◌≡◌, ◌+◌, ◌<◌, suc, length, ◌∙◌}
use Rattle.regions.specs.Table.{held_at}
use Rattle.marker.proofs.HeldSlots.{drop_first, drop_slot, drop_key, drop_nil, drop_none, drop_last}
use Rattle.marker.proofs.clearing.drop_held.Goals as goal
use Rattle.marker.proofs.clearing.drop_held.Goals.{in-None, in-Some}

pub loop-slot-init : goal.loop-slot-init
loop-slot-init c = drop_first c.args.table.now c.args.object c.requires

pub get_weak-requires : goal.get_weak-requires
get_weak-requires c =
    let less : c.loop-slot.slot < length (held_at c.args.table.now c.args.object) =
    omega (arith, c.held_count-count.ensures, c.loop-slot-test.true) in
    drop_key _ _ _ _ c.law.ensures c.loop-slot.invariant less

pub set_held-requires : goal.set_held-requires
set_held-requires c =
    let less : c.loop-slot.slot < length (held_at c.args.table.now c.args.object) =
    omega (arith, c.held_count-count.ensures, c.loop-slot-test.true) in
    drop_slot _ _ _ _ c.law.ensures c.loop-slot.invariant less

pub loop-slot-preserved : goal.loop-slot-preserved
loop-slot-preserved c =
    let less : c.loop-slot.slot < length (held_at c.args.table.now c.args.object) =
    omega (arith, c.held_count-count.ensures, c.loop-slot-test.true) in
    let next : c.loop-slot.slot + 1 ≡ suc c.loop-slot.slot = omega arith in
    let p = c.loop-slot.invariant in
    elim c.match-get_weak.branch [
      | in-None w ↦ (let is = w.table-is ∙ w.set_held.ensures in
          rw (next, is) (drop_nil _ _ _ _ c.law.ensures p less c.get_weak.result c.get_weak.ensures w.in-None.is))
      | in-Some w ↦ (let is = w.table-is in
          rw (next, is) (drop_none _ _ _ _ c.law.ensures p less c.get_weak.result c.get_weak.ensures w.in-Some.field-0 w.in-Some.is))
    ]

pub returns : goal.returns
returns c = drop_last _ _ _ _ c.loop-slot.invariant (omega (arith, c.held_count-count.ensures, c.loop-slot-test.false))
