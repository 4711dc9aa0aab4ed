use Rattle.regions.proofs.Common.{◌^◌, ◌∙◌, pow_pos}
use Rattle.regions.proofs.Cards.FirstTiles.{cards_between, cards_fit}
use Rattle.regions.proofs.first_tiles.write_tile.Goals as goal

pub fill_cards-requires : goal.fill_cards-requires
fill_cards-requires c = rw c.card_from-2.ensures (cards_fit c.args.end (2 ^ c.args.shift) _ (pow_pos c.args.shift) c.requires.within)

pub returns-clause-entries : goal.returns-clause-entries
returns-clause-entries c n = rw (c.card_from.ensures, c.card_from-2.ensures) at (c.fill_cards.ensures.entries n)
    ∙ cards_between (2 ^ c.args.shift) c.args.at c.args.end n _ _ (pow_pos c.args.shift)
