use Rattle.regions.proofs.Tiles.ShapedMade.{shaped_of}
use Rattle.regions.proofs.table.RegionTable.law.Goals as goal

pub returns : goal.returns
returns c = shaped_of _ _ _ _ c.self.invariant.table c.self.view_is
