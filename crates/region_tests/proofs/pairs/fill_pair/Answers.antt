use Rattle.std.proofs.Common.{arith, None, Some, ap}
use Rattle.region_tests.proofs.PairSamples.{key_set, held_set, paired_is}
use Rattle.region_tests.proofs.pairs.fill_pair.Goals as goal

pub set_weak-requires : goal.set_weak-requires
set_weak-requires c = let p = paired_is _ _ _ _ c.requires c.new-object.ensures in omega (arith, p.weaks)

pub set_held-requires : goal.set_held-requires
set_held-requires c =
    let t2 = key_set _ _ _ _ c.requires c.set_weak.ensures c.new-object.ensures c.new.ensures in
    let p = paired_is _ _ _ _ t2 c.new-object.ensures in omega (arith, p.held)

pub returns : goal.returns
returns c =
    let t2 = key_set _ _ _ _ c.requires c.set_weak.ensures c.new-object.ensures c.new.ensures in
    held_set _ _ _ _ _ _ t2 c.set_held.ensures c.new-object.ensures (ap Some c.new-object.ensures)
