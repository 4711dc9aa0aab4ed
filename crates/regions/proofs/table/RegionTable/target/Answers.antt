use Rattle.std.proofs.Common.{◌∙◌}
use Rattle.regions.proofs.Tiles.ForwardedLaws.{target_is}
use Rattle.regions.proofs.Tiles.Within.{tile_starts}
use Rattle.regions.proofs.Tiles.Shown.{some_tile}
use Rattle.regions.proofs.table.RegionTable.target.Goals as goal

pub target_in-requires : goal.target_in-requires
target_in-requires c =
    let s = some_tile _ c.requires in
    tile_starts _ _ _ _ _ _ s.0 c.self.invariant.table c.self.invariant.written c.self.view_is s.1

pub returns : goal.returns
returns c = c.target_in.ensures ∙ target_is _ _ _ _ _ c.self.invariant.table c.self.view_is c.requires
