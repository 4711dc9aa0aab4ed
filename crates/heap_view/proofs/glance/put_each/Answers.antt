use Rattle.std.proofs.Common.{sym}
use Rattle.heap_dump.proofs.Putting.{adds_at, adds_below}
use Rattle.heap_view.specs.Glances.{listed_region}
use Rattle.heap_view.proofs.glance.put_each.Goals as goal

pub loop-number-preserved : goal.loop-number-preserved
loop-number-preserved c =
    adds_below (listed_region c.args.summary c.args.core.now) _ _ _ _ c.loop-number.invariant
    (adds_at (listed_region c.args.summary c.args.core.now) _ _ _ _ (sym c.new.ensures) c.put_listed.ensures)
