use Rattle.std.proofs.Common.{◌∙◌, ◌*◌, List, ap, sym, subst}
use Rattle.heap_words.specs.declared.addr.Addr.{Addr}
use Rattle.regions.specs.declared.row.Shape.{Shape}
use Rattle.regions.specs.Table.{Table}
use Rattle.regions.specs.Shaped.{IsShaped}
use Rattle.regions.specs.Walks.{ArePlaced, placed, tiles_of}
use Rattle.regions.proofs.Walks.WalkTiles.{walk_placed}
use Rattle.heap_dump.proofs.shares.walk_region.Goals as goal

pub returns : goal.returns
returns c =
    let core = c.args.core.now in
    let tiles = c.walk.ensures
    ∙ ap (λ (t : Table). placed (c.args.region * t.words_per_region) (tiles_of t c.args.region)) c.table-2.ensures in
    record {
      tiles = tiles;
      placed = subst (λ (l : List (Addr × Shape)). ArePlaced core.table l) (sym tiles)
          (walk_placed core.table c.args.region (subst IsShaped c.table.ensures c.law.ensures));
    }
