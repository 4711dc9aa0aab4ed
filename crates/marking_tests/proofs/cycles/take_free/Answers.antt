use Rattle.std.proofs.Common.{refl}
use Rattle.marking_tests.proofs.Samples.{take_keeps}
use Rattle.marking_tests.proofs.cycles.take_free.Goals as goal

pub returns : goal.returns
returns c = record { keeps = take_keeps c.args.table.now _ _ refl c.take_free.ensures.taken }
