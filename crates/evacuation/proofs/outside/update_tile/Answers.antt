use Rattle.evacuation.proofs.Turns.Following.{stays_on}
use Rattle.evacuation.proofs.Loops.OutsideCards.{object_now, object_tile}
use Rattle.evacuation.proofs.outside.update_tile.Goals as goal

pub update_object-requires : goal.update_object-requires
update_object-requires g c =
    let (stands, (kept, (place, (outside, tile)))) = c.requires in
    let object = object_now g.pause c.args.table.now c.args.kept c.args.at kept (c.is_kept.ensures.0 c.if-is_kept.true) in
    (stands, (place, (outside, object)))

pub returns-then-is_kept-clause-tile : goal.returns-then-is_kept-clause-tile
returns-then-is_kept-clause-tile g c =
    let (stands, (kept, (place, (outside, tile)))) = c.requires in
    let o = object_now g.pause c.args.table.now c.args.kept c.args.at kept (c.is_kept.ensures.0 c.if-is_kept.true) in
    let (y, at, n) = c.update_object.ensures.goes_on.after.stays c.args.at o.0 outside o.1 in
    object_tile g.pause c.update_object.new.table c.args.at (y, at)

pub returns-else-is_kept-clause-goes_on : goal.returns-else-is_kept-clause-goes_on
returns-else-is_kept-clause-goes_on g c = stays_on c.requires.0
