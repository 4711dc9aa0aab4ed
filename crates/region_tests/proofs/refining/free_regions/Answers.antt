use Rattle.region_tests.proofs.Samples.{free_sample}
use Rattle.region_tests.proofs.refining.free_regions.Goals as goal

pub returns-clause-sample : goal.returns-clause-sample
returns-clause-sample c = free_sample c.in-Ok.table c.in-Ok.ensures.made
