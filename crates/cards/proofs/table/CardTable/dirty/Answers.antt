use Rattle.std.proofs.Common.{◌≡◌, set, true, false, arith, sym, ap, ◌∙◌, refl}
use Rattle.std.specs.Vec.{with_item}
use Rattle.cards.specs.Cards.{is_dirty}
use Rattle.cards.specs.declared.table.CardTable.TheInside.{Inside}
use Rattle.cards.proofs.Fields.{is_pushed, longer_log_room, now_is, IsCardTable-dirtied, sent_view, stays_view}
use Rattle.cards.proofs.table.CardTable.dirty.Goals as goal

pub move_to-requires : goal.move_to-requires
move_to-requires c =
    let clean : is_dirty c.args.self.now c.args.card ≡ false = sym c.is_dirty.ensures ∙ c.if-is_dirty.false in
    omega (
      arith,
      longer_log_room c.self.inside c.args.self.now c.args.mutator c.args.card c.index_mut-log.result.now c.push.new.self
          c.self.view_is c.self.invariant c.requires.mutator c.requires.card clean c.index_mut-log.ensures.value
          (is_pushed c.index_mut-log.result.now c.push.new.self c.number-2.ensures c.push.ensures),
      c.self.inside.queue.ok.0,
    )

pub returns-then-len-eq-LOG_LEN-clause-after : goal.returns-then-len-eq-LOG_LEN-clause-after
returns-then-len-eq-LOG_LEN-clause-after c =
    let clean : is_dirty c.args.self.now c.args.card ≡ false = sym c.is_dirty.ensures ∙ c.if-is_dirty.false in
    let now = now_is c.self.inside c.args.self.now c.args.mutator c.args.card c.index_mut-log.result.now c.push.new.self c.self.view_is
    c.requires.mutator c.index_mut-log.ensures.value
    (is_pushed c.index_mut-log.result.now c.push.new.self c.number-2.ensures c.push.ensures) in
    let after : Inside = record {
      dirty = c.set.new.self;
      logs = with_item c.self.inside.logs c.args.mutator c.move_to.new.log;
      queue = c.move_to.new.queue;
    } in
    sent_view c.self.inside after c.args.self.now c.args.mutator c.args.card c.push.new.self c.self.view_is clean c.requires.mutator now
    (omega arith)
    (c.set.ensures ∙ ap (λ n. set c.self.inside.dirty n true) c.number.ensures)
    (ap (λ l. set c.self.inside.logs.items c.args.mutator l) c.move_to.ensures.emptied) c.move_to.ensures.queue

pub invariant_of-self : goal.invariant_of-self
invariant_of-self c =
    let clean : is_dirty c.args.self.now c.args.card ≡ false = sym c.is_dirty.ensures ∙ c.if-is_dirty.false in
    let now = now_is c.self.inside c.args.self.now c.args.mutator c.args.card c.index_mut-log.result.now c.push.new.self c.self.view_is
    c.requires.mutator c.index_mut-log.ensures.value
    (is_pushed c.index_mut-log.result.now c.push.new.self c.number-2.ensures c.push.ensures) in
    let after : Inside = record {
      dirty = c.set.new.self;
      logs = with_item c.self.inside.logs c.args.mutator c.move_to.new.log;
      queue = c.move_to.new.queue;
    } in
    let view = sent_view c.self.inside after c.args.self.now c.args.mutator c.args.card c.push.new.self c.self.view_is clean
    c.requires.mutator now (omega arith)
    (c.set.ensures ∙ ap (λ n. set c.self.inside.dirty n true) c.number.ensures)
    (ap (λ l. set c.self.inside.logs.items c.args.mutator l) c.move_to.ensures.emptied) c.move_to.ensures.queue in
    IsCardTable-dirtied c.self.inside after c.args.self.now c.args.mutator c.args.card c.self.view_is c.self.invariant view
    c.requires.mutator
    c.requires.card c.move_to.ensures.capacity

pub invariant_of-self-else-len-eq-LOG_LEN : goal.invariant_of-self-else-len-eq-LOG_LEN
invariant_of-self-else-len-eq-LOG_LEN c =
    let clean : is_dirty c.args.self.now c.args.card ≡ false = sym c.is_dirty.ensures ∙ c.if-is_dirty.false in
    let now = now_is c.self.inside c.args.self.now c.args.mutator c.args.card c.index_mut-log.result.now c.push.new.self c.self.view_is
    c.requires.mutator c.index_mut-log.ensures.value
    (is_pushed c.index_mut-log.result.now c.push.new.self c.number-2.ensures c.push.ensures) in
    let after : Inside = record {
      dirty = c.set.new.self;
      logs = with_item c.self.inside.logs c.args.mutator c.push.new.self;
      queue = c.self.inside.queue;
    } in
    let view = stays_view c.self.inside after c.args.self.now c.args.mutator c.args.card c.push.new.self c.self.view_is clean
    c.requires.mutator now (λ four. c.if-len-eq-LOG_LEN.false (c.len.ensures.value ∙ four))
    (c.set.ensures ∙ ap (λ n. set c.self.inside.dirty n true) c.number.ensures) refl refl in
    IsCardTable-dirtied c.self.inside after c.args.self.now c.args.mutator c.args.card c.self.view_is c.self.invariant view
    c.requires.mutator
    c.requires.card refl
