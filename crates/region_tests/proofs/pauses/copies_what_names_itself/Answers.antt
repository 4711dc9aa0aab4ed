use Rattle.std.proofs.Common.{arith}
use Rattle.region_tests.proofs.pauses.copies_what_names_itself.Goals as goal

pub first_tile-requires : goal.first_tile-requires
first_tile-requires g c = rw (c.in_ok-paused.ensures.count, c.in_ok-paused.ensures.words, c.new-last.ensures) (omega arith)

pub field-requires : goal.field-requires
field-requires g c = rw (c.in_ok-paused.ensures.count, c.in_ok-paused.ensures.words, c.new-last.ensures) (omega arith)

pub field-requires-2 : goal.field-requires-2
field-requires-2 g c = rw (c.in_ok-paused.ensures.count, c.in_ok-paused.ensures.words, c.new-last.ensures) (omega arith)
