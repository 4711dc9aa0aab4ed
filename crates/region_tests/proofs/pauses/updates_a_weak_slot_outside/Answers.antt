use Rattle.std.proofs.Common.{arith}
use Rattle.region_tests.proofs.pauses.updates_a_weak_slot_outside.Goals as goal

pub first_tile-requires : goal.first_tile-requires
first_tile-requires g c = rw (c.in_ok-paused.ensures.count, c.in_ok-paused.ensures.words, c.new-last.ensures) (omega arith)

pub field-requires : goal.field-requires
field-requires g c = rw (c.in_ok-paused.ensures.count, c.in_ok-paused.ensures.words, c.new-holder.ensures) (omega arith)
