use Rattle.evacuation.proofs.Slides.Redirecting.{object_stays}
use Rattle.evacuation.proofs.slide.redirect_fields.Goals as goal

pub redirect_cards-requires : goal.redirect_cards-requires
redirect_cards-requires g c =
    let (stands, (kept, (way, (words, (visited, (object, below)))))) = c.requires in
    (stands, (kept, (way, (words, visited))))

pub settle_fields-requires : goal.settle_fields-requires
settle_fields-requires g c =
    let (stands, (kept, (way, (words, (visited, (object, below)))))) = c.requires in
    let on = c.redirect_cards.ensures.goes_on in (
      on.stands,
      (way, (words, (object_stays g.slide stands.apart c.args.table.now c.redirect_cards.new.table on.table g.slide.from object, below))),
    )

pub returns : goal.returns
returns g c = record {
  table = c.redirect_cards.new.table;
  notes = c.redirect_cards.new.noted;
  cards = c.redirect_cards.ensures.goes_on;
  unnamed = c.redirect_cards.ensures.unnamed;
  own = c.settle_fields.ensures.goes_on;
}
