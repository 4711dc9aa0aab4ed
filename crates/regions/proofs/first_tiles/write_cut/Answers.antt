use Rattle.regions.proofs.Common.{◌^◌, arith}
use Rattle.regions.proofs.Cards.FirstTiles.{cut_put}
use Rattle.regions.proofs.first_tiles.write_cut.Goals as goal

pub write_tile-requires-clause-within : goal.write_tile-requires-clause-within
write_tile-requires-clause-within c = omega (arith, c.requires.within, c.requires.rest)

pub write_rest-requires-clause-within : goal.write_rest-requires-clause-within
write_rest-requires-clause-within c = rw c.write_tile.ensures.len c.requires.within

pub returns-clause-entries : goal.returns-clause-entries
returns-clause-entries c n =
    cut_put (2 ^ c.args.shift) c.args.at c.args.middle c.args.end _ _ _ _ (c.write_tile.ensures.entries n) (c.write_rest.ensures.entries n)
    (c.write_rest.ensures.last n)
