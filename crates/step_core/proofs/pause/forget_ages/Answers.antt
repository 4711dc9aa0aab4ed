use Rattle.std.proofs.Common.{◌<◌, ◌+◌, refl, sym, subst, arith, length, take}
use Rattle.region_choice.specs.declared.LiveRow.{LiveRow}
use Rattle.region_choice.proofs.Aging.{none_aged, one_aged}
use Rattle.evacuation.specs.Evacuates.{is_chosen}
use Rattle.evacuation.proofs.WholePause.ChosenReleased.{chosen_more}
use Rattle.step_core.proofs.pause.forget_ages.Goals as goal

pub loop-row-init : goal.loop-row-init
loop-row-init c = none_aged (is_chosen (take 0 c.args.rows.now)) c.args.ages.now (λ j. refl)

pub forget-requires : goal.forget-requires
forget-requires c =
    let known = subst (λ (r : LiveRow). r.region < length c.args.ages.now.stamps) (sym c.row-item.is)
    (c.requires c.loop-row.row-index c.row-item.result c.loop-row-test.true) in
    omega (arith, known, c.loop-row.invariant.count)

pub loop-row-preserved : goal.loop-row-preserved
loop-row-preserved c =
    let known = subst (λ (r : LiveRow). r.region < length c.args.ages.now.stamps) (sym c.row-item.is)
    (c.requires c.loop-row.row-index c.row-item.result c.loop-row-test.true) in
    one_aged (is_chosen (take c.loop-row.row-index c.args.rows.now)) (is_chosen (take (c.loop-row.row-index + 1) c.args.rows.now))
    c.row-item.result.region
    (λ j. chosen_more c.args.rows.now c.loop-row.row-index c.row-item.result j c.loop-row-test.true (sym c.row-item.is))
    c.args.ages.now c.loop-row.ages c.forget.new.self (omega (arith, known, c.loop-row.invariant.count)) c.forget.ensures
    c.loop-row.invariant
