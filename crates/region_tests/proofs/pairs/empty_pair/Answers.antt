use Rattle.std.proofs.Common.{arith, refl}
use Rattle.region_tests.proofs.PairSamples.{held_set, paired_is}
use Rattle.region_tests.proofs.pairs.empty_pair.Goals as goal

pub set_held-requires : goal.set_held-requires
set_held-requires c = let p = paired_is _ _ _ _ c.requires c.new.ensures in omega (arith, p.held)

pub returns : goal.returns
returns c = held_set _ _ _ _ _ _ c.requires c.set_held.ensures c.new.ensures refl
