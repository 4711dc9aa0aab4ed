use Rattle.std.proofs.Common.{◌∙◌, sym}
use Rattle.evacuation.proofs.Copies.NewPlace as places
use Rattle.evacuation.proofs.fields.new_place.Goals as goal

pub target-requires : goal.target-requires
target-requires g c =
    let (premises, (turn, named)) = c.requires in
    places.tile_stands g.pause premises c.args.table.now c.args.destinations.now turn c.law.ensures c.args.from named

pub copy-requires : goal.copy-requires
copy-requires g c =
    let (premises, (turn, named)) = c.requires in
    let un = sym c.target.ensures ∙ c.in-None.is in
    record {
      object = places.some_object g.pause premises c.args.table.now c.args.destinations.now turn c.law.ensures c.args.from named un;
      ordinary = places.ordinary g.pause premises c.args.table.now c.args.destinations.now turn c.law.ensures c.args.from named un;
      untargeted = places.untargeted g.pause premises c.args.table.now c.args.destinations.now turn c.law.ensures c.args.from named un;
      known = places.last_known g.pause premises c.args.table.now c.args.destinations.now turn c.law.ensures c.args.from named un;
      last = places.last_ordinary g.pause premises c.args.table.now c.args.destinations.now turn c.law.ensures c.args.from named un;
      small = places.small g.pause premises c.args.table.now c.args.destinations.now turn c.law.ensures c.args.from named un;
      room = places.can_place g.pause premises c.args.table.now c.args.destinations.now turn c.law.ensures c.args.from named un;
      list = turn.copying.list;
      count = places.count g.pause premises c.args.table.now c.args.destinations.now turn c.law.ensures c.args.from named un;
    }

pub returns-in-None : goal.returns-in-None
returns-in-None g c =
    let (premises, (turn, named)) = c.requires in
    let (now, (at, (after, frame))) =
    places.placed g.pause premises c.args.table.now c.args.destinations.now turn c.law.ensures c.args.from named
    (sym c.target.ensures ∙ c.in-None.is) c.copy.new.table c.copy.new.destinations c.copy.result c.copy.ensures.copies
    c.copy.ensures.changes in
    record { turn = now; place = at; after = after; frame = frame }
