use Rattle.regions.proofs.Rows.Counting.{count_is}
use Rattle.regions.proofs.table.RegionTable.free_count.Goals as goal

pub returns : goal.returns
returns c = count_is _ _ _ _ _ c.self.view_is c.self.invariant.free_is
