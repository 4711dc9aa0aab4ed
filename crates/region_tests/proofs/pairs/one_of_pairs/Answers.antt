use Rattle.std.proofs.Common.{arith, refl}
use Rattle.region_tests.proofs.TableSamples.{fill_take, usable, is_cut, filler_there}
use Rattle.region_tests.proofs.PairSamples.{pairs_made}
use Rattle.region_tests.proofs.pairs.one_of_pairs.Goals as goal

pub push_filler-requires : goal.push_filler-requires
push_filler-requires c =
    let t1 = fill_take _ _ c.in_ok-table.ensures.free c.take_free.ensures.taken in
    let u = usable _ _ c.new-size.result t1 c.new-region.ensures (omega (arith, c.new-size.ensures)) in
    record { known = u.known; ordinary = u.ordinary; room = u.room }

pub make_pairs-requires-clause-there : goal.make_pairs-requires-clause-there
make_pairs-requires-clause-there c =
    let t1 = fill_take _ _ c.in_ok-table.ensures.free c.take_free.ensures.taken in
    let t2 = is_cut _ _ _ _ 10 t1 c.push_filler.ensures.pushed c.new-region.ensures c.new-size.ensures in
    filler_there _ _ _ 10 t2 c.new-object.ensures c.new-size.ensures

pub returns : goal.returns
returns c =
    let t1 = fill_take _ _ c.in_ok-table.ensures.free c.take_free.ensures.taken in
    let t2 = is_cut _ _ _ _ 10 t1 c.push_filler.ensures.pushed c.new-region.ensures c.new-size.ensures in
    pairs_made _ _ _ _ _ _ _ t2 c.make_pairs.ensures c.new-object.ensures c.new-size.ensures refl c.new.ensures c.new-2.ensures
