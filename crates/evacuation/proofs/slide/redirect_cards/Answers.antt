use Rattle.std.proofs.Common.{◌∙◌, sym, subst, ap, inl, inr, arith}
use Rattle.std.proofs.lemmas.Bool.{cases_eq, cases_lt}
use Rattle.evacuation.specs.Space.{flag}
use Rattle.evacuation.specs.Sliding.{IsCardUnnamed}
use Rattle.evacuation.proofs.Slides.Redirecting.{stays_on, goes_further, visits_more, card_unnamed}
use Rattle.evacuation.proofs.slide.redirect_cards.Goals as goal

pub loop-card-init : goal.loop-card-init
loop-card-init g c = record {
  on = stays_on g.slide _ c.args.table.now c.args.noted.now c.requires.0;
  inside = omega arith;
  unnamed = λ card h. absurd (omega arith);
}

pub redirect_card-requires : goal.redirect_card-requires
redirect_card-requires g c =
    let (stands, (kept, (way, (words, visited)))) = c.requires in
    let v = c.loop-card.invariant in
    let same = v.on.stands.each_card in
    let was = stands.each_card in
    let within = c.in-Some.ensures.within in
    (v.on.stands, (kept, (way, (words, omega (arith, visited, same, was, within)))))

pub loop-card-preserved : goal.loop-card-preserved
loop-card-preserved g c =
    let (stands, (kept, (way, (words, visited)))) = c.requires in
    let v = c.loop-card.invariant in
    let on = c.redirect_card.ensures.goes_on in
    let found = c.in-Some.ensures.lowest in
    record {
      on = goes_further g.slide _ c.args.table.now c.loop-card.table c.redirect_card.new.table c.args.noted.now c.loop-card.noted
          c.redirect_card.new.noted v.on
          (visits_more g.slide _ _ c.loop-card.table c.redirect_card.new.table c.loop-card.noted c.redirect_card.new.noted
          (λ d e. ap (flag c.args.visited.now) e ∙ found.is_in) on);
      inside = omega (arith, c.in-Some.ensures.within);
      unnamed = λ card less is. elim (cases_lt card c.loop-card.start) [
        | inl low ↦ card_unnamed g.slide stands.apart c.loop-card.table c.redirect_card.new.table on.table card (v.unnamed card low is)
        | inr high ↦ elim (cases_eq card c.in-Some.card) [
          | inl q ↦ subst (IsCardUnnamed g.slide c.redirect_card.new.table) (sym q) c.redirect_card.ensures.unnamed
          | inr q ↦ absurd (let no = found.lowest card high (omega (arith, less, q)) in cc)
        ]
      ];
    }

pub returns-clause-unnamed : goal.returns-clause-unnamed
returns-clause-unnamed g c =
    let v = c.loop-card.invariant in
    λ card is. elim (cases_lt card c.loop-card.start) [
      | inl low ↦ v.unnamed card low is
      | inr high ↦ absurd (let no = c.in_default.ensures.lowest card high in cc)
    ]
