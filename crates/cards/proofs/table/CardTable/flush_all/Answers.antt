use Rattle.std.proofs.Common.{◌≡◌, ◌<◌, length, set, arith, ap, sym, ◌∙◌, subst, refl}
use Rattle.std.specs.Vec.{with_item}
use Rattle.cards.specs.declared.table.CardTable.TheInside.{Inside}
use Rattle.cards.specs.Cards.{Cards, sent, flushed}
use Rattle.cards.specs.Inside.{cards_of, IsCounted}
use Rattle.cards.proofs.Listed.{IsCounted-sent}
use Rattle.cards.proofs.Fields.{log_room, sent_fields, logs_stay, dirty_stays, IsCardTable-flushed}
use Rattle.cards.proofs.Flushed.{sent_more, all_sent}
use Rattle.cards.proofs.table.CardTable.flush_all.Goals as goal

pub move_to-requires : goal.move_to-requires
move_to-requires c =
    let t = c.loop-mutator.self-inside in
    let i = c.loop-mutator.mutator in
    let first : i < length c.self.inside.logs.items =
    omega (arith, c.loop-mutator-test.true, c.len-mutator-end.ensures, c.self.inside.logs.ok.0) in
    let known : i < length t.logs.items = omega (
      arith,
      first,
      logs_stay c.self.inside t i c.loop-mutator.invariant.sent (omega (arith, first)),
    ) in
    let same = dirty_stays c.self.inside t i c.loop-mutator.invariant.sent in
    omega (
      arith,
      log_room t i c.index_mut-log.result.now c.loop-mutator.invariant.counted
          (omega (arith, same, c.loop-mutator.invariant.capacity, c.self.invariant.room)) known c.index_mut-log.ensures.value,
      t.queue.ok.0,
    )

pub loop-mutator-preserved : goal.loop-mutator-preserved
loop-mutator-preserved c =
    let t = c.loop-mutator.self-inside in
    let i = c.loop-mutator.mutator in
    let first : i < length c.self.inside.logs.items =
    omega (arith, c.loop-mutator-test.true, c.len-mutator-end.ensures, c.self.inside.logs.ok.0) in
    let known : i < length t.logs.items = omega (
      arith,
      first,
      logs_stay c.self.inside t i c.loop-mutator.invariant.sent (omega (arith, first)),
    ) in
    let after : Inside = record { dirty = t.dirty; logs = with_item t.logs i c.move_to.new.log; queue = c.move_to.new.queue } in
    let view : cards_of after ≡ sent (cards_of t) i =
    sent_fields t after i c.index_mut-log.result.now known c.index_mut-log.ensures.value refl
    (ap (λ l. set t.logs.items i l) c.move_to.ensures.emptied) c.move_to.ensures.queue in
    record {
      sent = view ∙ ap (λ (u : Cards). sent u i) c.loop-mutator.invariant.sent ∙ sent_more (cards_of c.self.inside) i first;
      counted = subst IsCounted (sym view) (IsCounted-sent (cards_of t) i c.loop-mutator.invariant.counted known);
      capacity = c.move_to.ensures.capacity ∙ c.loop-mutator.invariant.capacity;
    }

pub invariant_of-self : goal.invariant_of-self
invariant_of-self c =
    let all : c.loop-mutator.mutator ≡ length c.self.inside.logs.items =
    omega (arith, c.loop-mutator-test.false, c.loop-mutator.auto.mutator-end, c.len-mutator-end.ensures, c.self.inside.logs.ok.0) in
    IsCardTable-flushed c.self.inside c.loop-mutator.self-inside c.self.invariant
    (c.loop-mutator.invariant.sent ∙ all_sent
    (cards_of c.self.inside) c.loop-mutator.mutator all) c.loop-mutator.invariant.counted c.loop-mutator.invariant.capacity

pub returns : goal.returns
returns c =
    let all : c.loop-mutator.mutator ≡ length c.self.inside.logs.items =
    omega (arith, c.loop-mutator-test.false, c.loop-mutator.auto.mutator-end, c.len-mutator-end.ensures, c.self.inside.logs.ok.0) in
    c.loop-mutator.invariant.sent ∙ all_sent (cards_of c.self.inside) c.loop-mutator.mutator all
    ∙ ap (λ (u : Cards). flushed u) c.self.view_is
