use Rattle.std.proofs.Common.{sym, ap, ◌∙◌, arith}
use Rattle.heap_view.specs.Folds.{is_free_at}
use Rattle.heap_view.proofs.FreeRegions.{none_counted, one_counted, all_counted, end_counted}
use Rattle.heap_view.proofs.folds.free_run.Goals as goal

pub loop-number-init : goal.loop-number-init
loop-number-init c = none_counted c.args.table.now c.args.from

pub loop-number-preserved : goal.loop-number-preserved
loop-number-preserved c =
    one_counted c.args.table.now c.args.from c.loop-number.number
    (let all = c.region_count-count.ensures in let more = c.loop-number-test.true in omega (arith, all, more))
    (ap (is_free_at c.args.table.now) (sym c.new.ensures) ∙ sym c.is_free.ensures ∙ c.if-not-is_free.false) c.loop-number.invariant

pub returns-then-not-is_free : goal.returns-then-not-is_free
returns-then-not-is_free c =
    all_counted c.args.table.now c.args.from c.loop-number.number
    (let all = c.region_count-count.ensures in let more = c.loop-number-test.true in omega (arith, all, more))
    (ap (is_free_at c.args.table.now) (sym c.new.ensures) ∙ sym c.is_free.ensures ∙ c.if-not-is_free.true) c.loop-number.invariant

pub returns : goal.returns
returns c =
    end_counted c.args.table.now c.args.from c.loop-number.number _ c.region_count-count.ensures
    (let past = c.loop-number-test.false in omega (arith, past))
    (let few = c.loop-number.auto.number-end in omega (arith, few)) c.loop-number.invariant
