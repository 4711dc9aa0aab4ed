use Rattle.std.proofs.Common.{arith, refl}
use Rattle.step_core.proofs.Cores.Beginning.{first_is, first_stands}
use Rattle.step_core.proofs.heap.Core.new.Goals as goal

pub invariant_of-result : goal.invariant_of-result
invariant_of-result c =
    let m = c.in-Ok-new_mutating.ensures in
    let k = c.in-Ok-new_collecting.ensures in
    rw (c.in-Ok.ensures.made, m.closed, m.roots, m.next, k.cards, k.sets, k.ages)
    (first_is c.args.config.now c.in-Ok-new_collecting.collecting.marker _ _ (rw m.closed at m.stand) (c.in-Ok.ensures.suits refl)
    (rw k.room (record { regions = refl; cards = refl })) (omega (arith, k.rows)) (omega (arith, m.next, m.names)) k.idle k.logs k.spare
    k.stands)

pub returns : goal.returns
returns c =
    let m = c.in-Ok-new_mutating.ensures in
    let k = c.in-Ok-new_collecting.ensures in
    let suits = c.in-Ok.ensures.suits refl in
    record {
      fresh = rw (c.in-Ok.ensures.made, m.closed, m.roots, m.next, k.marker, k.cards, k.sets, k.room, k.rows, k.ages) refl;
      core = rw (c.in-Ok.ensures.made, m.closed, m.roots, m.next, k.cards, k.sets, k.ages)
          (first_is c.args.config.now c.in-Ok-new_collecting.collecting.marker _ _ (rw m.closed at m.stand) suits
          (rw k.room (record { regions = refl; cards = refl })) (omega (arith, k.rows)) (omega (arith, m.next, m.names)) k.idle k.logs
          k.spare k.stands);
      stands = rw (c.in-Ok.ensures.made, m.closed, m.roots, m.next, k.cards, k.sets, k.ages)
          (first_stands c.args.config.now c.in-Ok-new_collecting.collecting.marker _ _ k.idle);
      config = refl;
      suits = suits;
      fault = tt;
    }
