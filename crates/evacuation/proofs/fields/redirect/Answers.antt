use Rattle.evacuation.proofs.FieldUpdates.InTable as updates
use Rattle.evacuation.proofs.FieldUpdates.FieldCards.{field_pointer}
use Rattle.evacuation.proofs.fields.redirect.Goals as goal

pub new_place-to-requires : goal.new_place-to-requires
new_place-to-requires g c =
    let (premises, (turn, (outside, (field, (names, inside))))) = c.requires in
    let named = updates.named g.pause premises c.args.table.now c.args.destinations.now turn c.args.at c.args.field outside field
    c.args.target names inside in
    (premises, (turn, named))

pub set_field-requires : goal.set_field-requires
set_field-requires g c =
    let (premises, (turn, (outside, (field, (names, inside))))) = c.requires in
    field_pointer g.pause c.new_place-to.new.table c.args.at c.args.field
    (updates.there g.pause premises c.args.table.now c.args.destinations.now turn c.args.at c.args.field outside field
    c.new_place-to.new.table c.new_place-to.new.table c.new_place-to.new.destinations c.new_place-to.ensures.turn
    c.new_place-to.ensures.after c.new_place-to.ensures.frame c.args.target c.new_place-to.result names inside c.new_place-to.ensures.place)

pub returns : goal.returns
returns g c =
    let (premises, (turn, (outside, (field, (names, inside))))) = c.requires in
    let (now, noted) = updates.updated g.pause premises c.args.table.now c.args.destinations.now turn c.args.at c.args.field outside field
    c.new_place-to.new.table c.set_field.new.self c.new_place-to.new.destinations c.new_place-to.ensures.turn
    c.new_place-to.ensures.after c.new_place-to.ensures.frame c.args.target c.new_place-to.result names inside c.new_place-to.ensures.place
    c.law.ensures.positive c.set_field.ensures in
    let w = c.new_place-to.ensures.turn.copying.placed c.args.target c.new_place-to.result inside c.new_place-to.ensures.place in
    record {
      turn = now;
      known = (c.new_place-to.ensures.turn.taken _ w).2;
      after = λ was is notes. (noted was is notes).0;
      settled = λ was is notes. (noted was is notes).1;
    }
