use Rattle.std.proofs.Common.{arith}
use Rattle.region_tests.proofs.pauses.notes_a_weak_slot_at_once.Goals as goal

pub field-requires : goal.field-requires
field-requires g c = rw (c.in_ok-paused.ensures.count, c.in_ok-paused.ensures.words, c.new-holder.ensures) (omega arith)
