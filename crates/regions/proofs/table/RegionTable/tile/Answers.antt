use Rattle.regions.proofs.Tiles.Shown.{shown_there, some_tile}
use Rattle.regions.proofs.Tiles.Within.{tile_starts, target_within}
use Rattle.regions.proofs.table.RegionTable.tile.Goals as goal

pub shape_at-requires-clause-known : goal.shape_at-requires-clause-known
shape_at-requires-clause-known c =
    let s = some_tile _ c.requires in
    tile_starts _ _ _ _ _ _ s.0 c.self.invariant.table c.self.invariant.written c.self.view_is s.1

pub shape_at-requires-clause-target : goal.shape_at-requires-clause-target
shape_at-requires-clause-target c =
    let s = some_tile _ c.requires in
    target_within _ _ _ _ _ s.0 _ c.self.invariant.table c.self.invariant.written c.self.view_is s.1

pub returns : goal.returns
returns c = rw c.shape_at.ensures (shown_there _ _ _ _ _ c.self.invariant.table c.self.view_is c.requires)
