use Rattle.refinement.proofs.Holders.{placed_as}
use Rattle.refinement.proofs.scan.scan_apart.Goals as goal

pub scan_tile-requires-clause-tile : goal.scan_tile-requires-clause-tile
scan_tile-requires-clause-tile c = placed_as c.args.table.now c.args.at c.tile-shape.result c.requires.tile c.tile-shape.ensures
