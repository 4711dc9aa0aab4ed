use Rattle.std.proofs.Common.{◌<◌, ◌*◌, arith, refl}
use Rattle.remembered_sets.proofs.Filters.{place_fits}
use Rattle.remembered_sets.proofs.filter.places.Goals as goal

pub returns-clause-within : goal.returns-clause-within
returns-clause-within c =
    let first : c.row_of_first-first.result < 3 * c.args.rows = omega (arith, c.row_of_first-first.ensures.below) in
    let second : c.row_of_second-second.result < 3 * c.args.rows = omega (arith, c.row_of_second-second.ensures.below) in (
      place_fits c.args.rows _ c.args.cards_per_region c.args.card c.args.source _ _ c.requires.some_cards first
          refl c.requires.source c.number.ensures,
      place_fits c.args.rows _ c.args.cards_per_region c.args.card c.args.source _ _ c.requires.some_cards second
          refl c.requires.source c.number.ensures,
    )
