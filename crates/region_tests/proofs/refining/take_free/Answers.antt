use Rattle.std.proofs.Common.{refl}
use Rattle.region_tests.proofs.Samples.{take_sample}
use Rattle.region_tests.proofs.refining.take_free.Goals as goal

pub returns : goal.returns
returns c = take_sample c.args.table.now c.take_free.new.self _ refl c.take_free.ensures.taken c.requires
