use Rattle.std.proofs.Common.{◌∙◌, arith, refl, sym}
use Rattle.heap_view.proofs.Counting.{alike_more, alike_none, run_ends}
use Rattle.heap_view.proofs.census.run_length.Goals as goal

pub loop-place-init : goal.loop-place-init
loop-place-init c = alike_none c.args.classes.now c.args.class.now c.args.from c.args.from (omega arith)

pub loop-place-preserved : goal.loop-place-preserved
loop-place-preserved c =
    alike_more c.args.classes.now c.args.class.now c.args.from c.loop-place.place _
    (omega arith) (sym c.is_same.ensures ∙ c.if-not-is_same.false) c.loop-place.invariant

pub returns-then-not-is_same : goal.returns-then-not-is_same
returns-then-not-is_same c =
    run_ends c.args.classes.now c.args.class.now c.args.from c.loop-place.place _ (omega arith) (omega arith) refl c.loop-place.invariant
    (λ l. (_, sym c.is_same.ensures ∙ c.if-not-is_same.true))

pub returns : goal.returns
returns c =
    run_ends c.args.classes.now c.args.class.now c.args.from c.loop-place.place _ (omega arith) (omega arith) (omega arith)
    c.loop-place.invariant (λ l. absurd (omega arith))
