use Rattle.regions.proofs.Common.{arith, ap, ◌≡◌, ◌∙◌, tile_size, tile_shape, size_of_shape}
use Rattle.regions.proofs.Cards.CardStarts.{led}
use Rattle.regions.proofs.Tiles.Steps.{tile_there}
use Rattle.regions.proofs.Walks.WalkMade.{shape_size_is}
use Rattle.regions.proofs.table.RegionTable.first_tile_counted.Goals as goal

pub tile-requires : goal.tile-requires
tile-requires c =
    (led _ _ _ _ _ _ _ _ _ c.args.word _ _ _ _ _ c.new-start.result c.self.invariant c.self.view_is (c.word.ensures ∙ c.top.ensures)
    c.region_of.ensures c.word-2.ensures c.if-word.false c.word-3.ensures c.card_of-card.ensures.card c.card_of-card.ensures.positive
    (c.new-start.ensures ∙ c.start.ensures)).leads.start

pub overflow_add-word : goal.overflow_add-word
overflow_add-word c =
    let l = led _ _ _ _ _ _ _ _ _ c.args.word _ _ _ _ _ c.new-start.result c.self.invariant c.self.view_is
    (c.word.ensures ∙ c.top.ensures) c.region_of.ensures c.word-2.ensures c.if-word.false c.word-3.ensures c.card_of-card.ensures.card
    c.card_of-card.ensures.positive (c.new-start.ensures ∙ c.start.ensures) in
    let (u, is) = tile_there c.args.self.now c.new-start.result l.leads.start in
    let shape : c.tile.result ≡ tile_shape u = rw is at c.tile.ensures in
    let size : c.size.result ≡ tile_size u = c.size.ensures ∙ ap size_of_shape shape ∙ shape_size_is u in
    let within = c.law.ensures.within c.new-start.result u is in
    omega (arith, size, within, c.law.ensures.in_all, c.word-5.ensures)

pub returns-then-word-size-clause-holder : goal.returns-then-word-size-clause-holder
returns-then-word-size-clause-holder c =
    let l = led _ _ _ _ _ _ _ _ _ c.args.word _ _ _ _ _ c.new-start.result c.self.invariant c.self.view_is
    (c.word.ensures ∙ c.top.ensures) c.region_of.ensures c.word-2.ensures c.if-word.false c.word-3.ensures c.card_of-card.ensures.card
    c.card_of-card.ensures.positive (c.new-start.ensures ∙ c.start.ensures) in
    let (u, is) = tile_there c.args.self.now c.new-start.result l.leads.start in
    let shape : c.tile.result ≡ tile_shape u = rw is at c.tile.ensures in
    let size : c.size.result ≡ tile_size u = c.size.ensures ∙ ap size_of_shape shape ∙ shape_size_is u in
    record {
      tile = u;
      tile_is = is;
      low = l.leads.low;
      high = omega (arith, size, c.word-4.ensures, c.word-5.ensures, c.if-word-size.true);
    }

pub search_tile-requires-clause-leads : goal.search_tile-requires-clause-leads
search_tile-requires-clause-leads c =
    let l = led _ _ _ _ _ _ _ _ _ c.args.word _ _ _ _ _ c.new-start.result c.self.invariant c.self.view_is
    (c.word.ensures ∙ c.top.ensures) c.region_of.ensures c.word-2.ensures c.if-word.false c.word-3.ensures c.card_of-card.ensures.card
    c.card_of-card.ensures.positive (c.new-start.ensures ∙ c.start.ensures) in
    (l.at, l.holder, l.leads)
