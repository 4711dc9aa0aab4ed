use Rattle.std.proofs.Common.{arith, ap, length}
use Rattle.regions.proofs.Rows.Sound.{power_is, short_power}
use Rattle.regions.proofs.first_tiles.FirstTiles.new.Goals as goal

pub invariant_of-result : goal.invariant_of-result
invariant_of-result c = (
  record {
    is = power_is c.args.card_words c.ilog2-shift.result c.requires.power c.ilog2-shift.ensures.power_le
        c.ilog2-shift.ensures.next_power_gt;
    narrow = short_power c.ilog2-shift.result 12 (omega (arith, c.ilog2-shift.ensures.power_le, c.requires.small));
  },
  omega (arith, ap length c.in_ok-with_capacity.ensures.items),
  omega (arith, c.in_ok-with_capacity.ensures.capacity),
)
