use Rattle.heap_walk.specs.Kept.{place_above}
use Rattle.heap_walk.proofs.KeptAbove.{kept_on}
use Rattle.heap_walk.proofs.kept.kept_above.Goals as goal

pub returns : goal.returns
returns c =
    kept_on c.args.core.now c.law_shaped.ensures (place_above c.args.object) c.tile_after.result c.tile_after.ensures c.kept_from.result
    c.kept_from.ensures
