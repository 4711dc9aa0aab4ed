use Rattle.std.proofs.Common.{◌<◌, subst, sym, arith, length}
use Rattle.region_choice.specs.declared.LiveRow.{LiveRow}
use Rattle.step_core.proofs.Pauses.Chosen.{one_more_forgotten}
use Rattle.step_core.proofs.pause.forget_counts.Goals as goal

pub forget-requires-clause-previous : goal.forget-requires-clause-previous
forget-requires-clause-previous c =
    let known = subst (λ (r : LiveRow). r.region < length c.args.live.now.previous) (sym c.row-item.is)
    (c.requires.previous c.loop-row.row-index c.row-item.result c.loop-row-test.true) in
    omega (arith, known, c.loop-row.invariant.each_previous)

pub forget-requires-clause-next : goal.forget-requires-clause-next
forget-requires-clause-next c =
    let known = subst (λ (r : LiveRow). r.region < length c.args.live.now.next) (sym c.row-item.is)
    (c.requires.next c.loop-row.row-index c.row-item.result c.loop-row-test.true) in
    omega (arith, known, c.loop-row.invariant.each_next)

pub loop-row-preserved : goal.loop-row-preserved
loop-row-preserved c =
    let previous = subst (λ (r : LiveRow). r.region < length c.args.live.now.previous) (sym c.row-item.is)
    (c.requires.previous c.loop-row.row-index c.row-item.result c.loop-row-test.true) in
    let next = subst (λ (r : LiveRow). r.region < length c.args.live.now.next) (sym c.row-item.is)
    (c.requires.next c.loop-row.row-index c.row-item.result c.loop-row-test.true) in
    one_more_forgotten c.args.rows.now c.loop-row.row-index c.row-item.result c.args.live.now c.loop-row.live c.forget.new.self
    c.loop-row-test.true (sym c.row-item.is) (omega (arith, previous, c.loop-row.invariant.each_previous))
    (omega (arith, next, c.loop-row.invariant.each_next)) c.forget.ensures c.loop-row.invariant
