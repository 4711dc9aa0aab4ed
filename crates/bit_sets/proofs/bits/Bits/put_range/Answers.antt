use Rattle.std.proofs.Common.{◌*◌, ◌/◌, arith}
use Rattle.bit_sets.proofs.BitRanges.{three_parts}
use Rattle.bit_sets.proofs.bits.Bits.put_range.Goals as goal

pub returns-then-first-past-clause-flags : goal.returns-then-first-past-clause-flags
returns-then-first-past-clause-flags c =
    three_parts c.args.value c.args.self.now c.put_part.new.self c.put_groups.new.self c.put_part-then-first-past.new.self c.args.from
    (64 * c.div_ceil-first.result) (64 * (c.args.to / 64)) c.args.to
    (omega (arith, c.div_ceil-first.ensures)) (omega (arith, c.if-first-past.true)) (omega arith) c.put_part.ensures.flags
    c.put_groups.ensures.flags c.put_part-then-first-past.ensures.flags
