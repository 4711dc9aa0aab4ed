use Rattle.std.proofs.Common.{◌≡◌, ◌∙◌, List, Bool, length, false, arith, refl, ap, length-set}
use Rattle.cards.proofs.Listed.{IsCounted-taken, front_is_card, front_is_dirty}
use Rattle.cards.specs.Inside.{cards_of}
use Rattle.cards.proofs.table.CardTable.dequeue.Goals as goal

pub remove-requires : goal.remove-requires
remove-requires c =
    front_is_card (cards_of c.self.inside) c.in_ok-card.card c.pop_front.new.self.items c.self.invariant.cards c.in_ok-card.ensures.items

pub invariant_of-self-2 : goal.invariant_of-self-2
invariant_of-self-2 c =
    let long : length c.remove.new.self ≡ length c.self.inside.dirty =
    ap (λ (flags : List Bool). length flags) c.remove.ensures ∙ length-set c.self.inside.dirty c.in_ok-card.card false in
    record {
      cards = IsCounted-taken (cards_of c.self.inside)
          (record {
            dirty = c.remove.new.self;
            logs = c.self.inside.logs.items;
            queue = c.pop_front.new.self.items;
          }) c.in_ok-card.card c.self.invariant.cards c.in_ok-card.ensures.items c.remove.ensures refl;
      short = c.self.invariant.short;
      room = omega (arith, c.self.invariant.room, c.in_ok-card.ensures.capacity, long);
      few = omega (arith, c.self.invariant.few, long);
    }

pub returns-clause-known : goal.returns-clause-known
returns-clause-known c =
    rw (← c.self.view_is, c.new.ensures) (front_is_card
    (cards_of c.self.inside) c.in_ok-card.card c.pop_front.new.self.items c.self.invariant.cards c.in_ok-card.ensures.items)

pub returns-clause-was_dirty : goal.returns-clause-was_dirty
returns-clause-was_dirty c =
    rw (← c.self.view_is, c.new.ensures) (front_is_dirty
    (cards_of c.self.inside) c.in_ok-card.card c.pop_front.new.self.items c.self.invariant.cards c.in_ok-card.ensures.items)
