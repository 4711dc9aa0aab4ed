use Rattle.std.proofs.Common.{ℕ, sym, subst, arith, ◌<◌, ◌/◌}
use Rattle.regions.specs.Table.{top_of}
use Rattle.regions.specs.Walks.{IsHolder}
use Rattle.evacuation.proofs.Slides.Redirecting.{stays_on}
use Rattle.evacuation.proofs.Slides.Cards.{card_small, has_words, none_there}
use Rattle.evacuation.proofs.slide.redirect_card.Goals as goal

pub overflow_mul-card : goal.overflow_mul-card
overflow_mul-card g c =
    let (stands, (kept, (way, (words, known)))) = c.requires in
    let a = card_small g.slide c.args.table.now c.args.noted.now c.args.card stands known in
    let s = c.law.ensures.in_all in
    rw words (omega (arith, a, s))

pub first_tile-requires : goal.first_tile-requires
first_tile-requires g c =
    let (stands, (kept, (way, (words, known)))) = c.requires in
    let a = card_small g.slide c.args.table.now c.args.noted.now c.args.card stands known in
    let z = has_words g.slide c.args.table.now c.args.noted.now stands c.law.ensures c.args.card in
    let w = rw words at c.new-bottom.ensures in
    omega (arith, a, z, w)

pub returns-in_default-clause-goes_on : goal.returns-in_default-clause-goes_on
returns-in_default-clause-goes_on g c = stays_on g.slide _ c.args.table.now c.args.noted.now c.requires.0

pub returns-in_default-clause-unnamed : goal.returns-in_default-clause-unnamed
returns-in_default-clause-unnamed g c =
    let (stands, (kept, (way, (words, known)))) = c.requires in
    let w = rw words at c.new-bottom.ensures in
    none_there g.slide c.args.table.now c.args.noted.now stands c.law.ensures c.args.card
    (λ low. let k =
    c.in_default.ensures.found.1 (subst (λ (n : ℕ). n < top_of c.args.table.now (n / c.args.table.now.words_per_region)) (sym w) low) in
    absurd cc)

pub redirect_tiles-requires : goal.redirect_tiles-requires
redirect_tiles-requires g c =
    let (stands, (kept, (way, (words, known)))) = c.requires in (
      stands,
      (
        kept,
        (
          way,
          (
            words,
            (
              known,
              subst (λ (n : ℕ). IsHolder c.args.table.now c.in-Some.first n) c.new-bottom.ensures
                  c.in-Some.ensures.holder,
            ),
          ),
        ),
      ),
    )
