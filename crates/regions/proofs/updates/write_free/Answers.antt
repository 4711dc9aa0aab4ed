use Rattle.regions.proofs.LongRuns.RunGone.{free_row_put}
use Rattle.regions.proofs.updates.write_free.Goals as goal

pub loop-i-preserved : goal.loop-i-preserved
loop-i-preserved c = free_row_put _ _ c.args.at c.args.count c.loop-i.i c.requires c.loop-i-test.true c.loop-i.invariant
