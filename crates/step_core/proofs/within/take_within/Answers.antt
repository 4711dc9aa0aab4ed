use Rattle.std.proofs.Common.{◌<◌, ◌∙◌, ap, subst, sym, arith, length}
use Rattle.region_choice.specs.declared.LiveRow.{LiveRow}
use Rattle.remembered_sets.specs.Sets.{cards_into}
use Rattle.step_core.proofs.Pauses.Within.{row_holds, passed_over, one_taken, ended, stopped}
use Rattle.step_core.proofs.within.take_within.Goals as goal

pub count_cards-into-requires-clause-region : goal.count_cards-into-requires-clause-region
count_cards-into-requires-clause-region c =
    let t = c.loop-place.invariant.taken in
    subst (λ (r : LiveRow). r.region < length c.args.sets.now.sets) c.index-rows-place.is
    (row_holds c.args.sets.now c.args.cards c.args.rows.now c.loop-place.rows c.loop-place.count c.loop-place.place c.loop-place.left t
    c.index-rows-place.result (omega arith) c.index-rows-place.is (λ row. row.region < length c.args.sets.now.sets) c.args.rows_count
    c.loop-place-test.true c.requires.some c.requires.known)

pub loop-place-preserved-then-into-cards : goal.loop-place-preserved-then-into-cards
loop-place-preserved-then-into-cards c =
    let t = c.loop-place.invariant.taken in
    let into = c.count_cards-into.ensures.count
    ∙ ap (λ (r : LiveRow). cards_into c.args.sets.now r.region) (sym c.index-rows-place.is) in
    record {
      taken = passed_over c.args.sets.now c.args.cards c.args.rows.now c.loop-place.rows c.loop-place.count c.loop-place.place
          c.loop-place.left t c.index-rows-place.result (omega arith) c.index-rows-place.is
          (omega (arith, into, c.if-into-cards.true));
      room = c.count_cards-into.ensures.room ∙ c.loop-place.invariant.room;
    }

pub loop-place-preserved : goal.loop-place-preserved
loop-place-preserved c =
    let t = c.loop-place.invariant.taken in
    let into = c.count_cards-into.ensures.count
    ∙ ap (λ (r : LiveRow). cards_into c.args.sets.now r.region) (sym c.index-rows-place.is) in
    record {
      taken = one_taken c.args.sets.now c.args.cards c.args.rows.now c.loop-place.rows c.loop-place.count c.loop-place.place
          c.loop-place.left t c.index-rows-place.result (omega arith) c.index-rows-place.is c.swap.new.self _
          (omega (arith, into, c.if-into-cards.false)) (omega (arith, into, c.if-into-left.false)) c.swap.ensures.permutation
          c.swap.ensures.by_index;
      room = c.count_cards-into.ensures.room ∙ c.loop-place.invariant.room;
    }

pub returns-after-loop-place-clause-within : goal.returns-after-loop-place-clause-within
returns-after-loop-place-clause-within c =
    ended c.args.sets.now c.args.cards c.args.rows.now c.loop-place.rows c.args.rows_count c.loop-place.count c.loop-place.place
    c.loop-place.left c.loop-place.invariant.taken (omega arith)

pub returns-then-into-left-clause-within : goal.returns-then-into-left-clause-within
returns-then-into-left-clause-within c =
    let into = c.count_cards-into.ensures.count
    ∙ ap (λ (r : LiveRow). cards_into c.args.sets.now r.region) (sym c.index-rows-place.is) in
    stopped c.args.sets.now c.args.cards c.args.rows.now c.loop-place.rows c.args.rows_count c.loop-place.count c.loop-place.place
    c.loop-place.left c.loop-place.invariant.taken c.loop-place-test.true c.requires.some c.index-rows-place.result c.index-rows-place.is
    (omega (arith, into, c.if-into-cards.false)) (omega (arith, into, c.if-into-left.true))
