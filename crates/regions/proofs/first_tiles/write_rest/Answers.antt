use Rattle.regions.proofs.Common.{◌^◌, arith, pow_pos}
use Rattle.regions.proofs.Cards.FirstTiles.{cards_fit, rest_put, last_put, last_none}
use Rattle.regions.proofs.first_tiles.write_rest.Goals as goal

pub bounds-entries-past : goal.bounds-entries-past
bounds-entries-past c =
    let fits = cards_fit c.args.end (2 ^ c.args.shift) _ (pow_pos c.args.shift) c.requires.within in
    omega (arith, fits, c.card_from-past.ensures, c.if-card_from-past.true)

pub returns-then-card_from-past-clause-entries : goal.returns-then-card_from-past-clause-entries
returns-then-card_from-past-clause-entries c n =
    let fits = cards_fit c.args.end (2 ^ c.args.shift) _ (pow_pos c.args.shift) c.requires.within in
    rest_put c.args.entries.now (2 ^ c.args.shift) c.args.at c.args.end c.card_from-past.result n (pow_pos c.args.shift)
    c.card_from-past.ensures (omega (arith, c.if-card_from-past.true, c.card_from.ensures)) (omega (arith, fits, c.card_from-past.ensures))

pub returns-then-card_from-past-clause-last : goal.returns-then-card_from-past-clause-last
returns-then-card_from-past-clause-last c n low high near =
    let fits = cards_fit c.args.end (2 ^ c.args.shift) _ (pow_pos c.args.shift) c.requires.within in
    last_put c.args.entries.now (2 ^ c.args.shift) c.args.at c.args.end c.card_from-past.result n (pow_pos c.args.shift)
    c.card_from-past.ensures (omega (arith, c.if-card_from-past.true, c.card_from.ensures)) (omega (arith, fits, c.card_from-past.ensures))
    high near

pub returns-else-card_from-past-clause-last : goal.returns-else-card_from-past-clause-last
returns-else-card_from-past-clause-last c n low high near =
    last_none (2 ^ c.args.shift) c.args.at c.args.end n (pow_pos c.args.shift)
    (omega (arith, c.if-card_from-past.false, c.card_from.ensures, c.card_from-past.ensures)) low high
