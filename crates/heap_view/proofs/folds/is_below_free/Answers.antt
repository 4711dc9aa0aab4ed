use Rattle.heap_view.proofs.FreeRegions.{below_first, below_other}
use Rattle.heap_view.proofs.folds.is_below_free.Goals as goal

pub returns-then-number-eq0 : goal.returns-then-number-eq0
returns-then-number-eq0 c = below_first c.args.table.now c.args.region _ c.number-number.ensures c.if-number-eq0.true

pub returns : goal.returns
returns c =
    below_other c.args.table.now c.args.region _ _ _ c.number-number.ensures c.if-number-eq0.false c.new.ensures c.is_free.ensures
