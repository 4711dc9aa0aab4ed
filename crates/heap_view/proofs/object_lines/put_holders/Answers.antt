use Rattle.heap_walk.specs.Holders.{holders_at, place_count}
use Rattle.heap_view.proofs.Holding.{each_line, no_lines}
use Rattle.heap_view.proofs.Nexts.{next_none, next_told}
use Rattle.heap_view.proofs.object_lines.put_holders.Goals as goal

pub returns-in_default : goal.returns-in_default
returns-in_default c =
    let core = c.args.core.now in
    no_lines _ _ _ (next_none (holders_at core c.args.name) (place_count core) 0 _ _ c.in_default.is c.next_holder.ensures) c.put.ensures

pub returns : goal.returns
returns c =
    let core = c.args.core.now in
    each_line _ _ _ _ _ _ _ (next_told (holders_at core c.args.name) (place_count core) 0 _ _ c.in-Some.first c.in-Some.is
    c.next_holder.ensures)
    c.put-2.ensures c.put_holder.ensures c.put_holders_from.ensures
