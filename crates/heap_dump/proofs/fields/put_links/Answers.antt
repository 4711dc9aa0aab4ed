use Rattle.std.proofs.Common.{sym}
use Rattle.regions.specs.Table.{Table}
use Rattle.heap_walk.specs.Holders.{links_at}
use Rattle.heap_dump.specs.Fields.{spaced_pointer}
use Rattle.heap_dump.proofs.Putting.{adds_more, adds_at}
use Rattle.heap_dump.proofs.fields.put_links.Goals as goal

pub loop-index-preserved : goal.loop-index-preserved
loop-index-preserved c =
    adds_more (spaced_pointer c.args.spelling c.args.core.now.table) (links_at c.args.weak c.args.core.now c.args.object) _ _ _ _ _
    c.link_at.ensures c.loop-index.invariant
    (adds_at (λ (t : Table). spaced_pointer c.args.spelling t c.link_at.result) _ _ _ _ (sym c.table.ensures) c.put_spaced_pointer.ensures)
