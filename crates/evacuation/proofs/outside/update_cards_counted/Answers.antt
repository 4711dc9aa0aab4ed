use Rattle.std.proofs.Common.{arith, length}
use Rattle.evacuation.proofs.Turns.Following.{goes_further, stays_on}
use Rattle.evacuation.proofs.Loops.OutsideCards.{cards_none, cards_more, cards_skipped}
use Rattle.evacuation.proofs.Loops.Visits.{visited_all, visited_more}
use Rattle.evacuation.proofs.outside.update_cards_counted.Goals as goal

pub loop-card-init : goal.loop-card-init
loop-card-init g c =
    let (stands, (kept, visited)) = c.requires in
    record {
      on = stays_on stands;
      visits = omega arith;
      inside = omega arith;
      clean = cards_none g.pause c.args.visited.now c.args.table.now;
    }

pub update_card-requires : goal.update_card-requires
update_card-requires g c =
    let (stands, (kept, visited)) = c.requires in
    (c.loop-card.invariant.on.stands, (kept, omega (arith, visited, c.in-Some.ensures.within)))

pub loop-card-preserved : goal.loop-card-preserved
loop-card-preserved g c =
    let v = c.loop-card.invariant in
    let on = c.update_card.ensures.goes_on in
    let before =
    cards_skipped g.pause c.loop-card.table c.args.visited.now c.loop-card.start c.in-Some.card v.clean c.in-Some.ensures.lowest.lowest in
    record {
      on = goes_further v.on on;
      visits = visited_more c.args.visited.now c.loop-card.start c.in-Some.card _ _ _ v.visits c.tick.ensures
          c.in-Some.ensures.lowest.at_least c.in-Some.ensures.within c.in-Some.ensures.lowest.is_in;
      inside = omega (arith, c.in-Some.ensures.within);
      clean = cards_more g.pause c.loop-card.table c.update_card.new.table c.loop-card.context c.update_card.new.context
          c.args.visited.now c.in-Some.card v.on.stands on before (c.update_card.ensures.clean c.args.visited.now);
    }

pub returns-clause-clean : goal.returns-clause-clean
returns-clause-clean g c = cards_skipped g.pause c.loop-card.table c.args.visited.now c.loop-card.start (length c.args.visited.now)
    c.loop-card.invariant.clean (λ a h k. c.in_default.ensures.lowest a h)

pub returns-clause-visits : goal.returns-clause-visits
returns-clause-visits g c =
    let v = c.loop-card.invariant in
    visited_all c.args.visited.now c.loop-card.start _ _ v.visits v.inside
