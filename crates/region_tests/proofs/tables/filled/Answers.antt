use Rattle.std.proofs.Common.{arith}
use Rattle.region_tests.proofs.TableSamples.{fill_take, fill_push, fill_split, fill_make, fill_pointer, fill_value, usable}
use Rattle.region_tests.proofs.TableSamples.{filler2, filler3, sample_is}
use Rattle.region_tests.proofs.tables.filled.Goals as goal

pub push_filler-requires : goal.push_filler-requires
push_filler-requires g c =
    let t1 = fill_take _ _ c.in-Ok.ensures c.take_free.ensures.taken in
    let u = usable _ _ _ t1 c.new-region.ensures (let n = c.new.ensures in omega arith) in
    record { known = u.known; ordinary = u.ordinary; room = u.room }

pub split_filler-requires-clause-there : goal.split_filler-requires-clause-there
split_filler-requires-clause-there g c =
    let t1 = fill_take _ _ c.in-Ok.ensures c.take_free.ensures.taken in
    let t2 = fill_push _ _ _ _ t1 c.push_filler.ensures.pushed c.new-region.ensures c.new.ensures in
    filler2 _ _ _ t2 c.new-object.ensures c.new-2.ensures

pub make_object-requires-clause-there : goal.make_object-requires-clause-there
make_object-requires-clause-there g c =
    let t1 = fill_take _ _ c.in-Ok.ensures c.take_free.ensures.taken in
    let t2 = fill_push _ _ _ _ t1 c.push_filler.ensures.pushed c.new-region.ensures c.new.ensures in
    let t3 = fill_split _ _ _ _ _ t2 c.split_filler.ensures.split c.new-object.ensures c.new-2.ensures c.new-3.ensures in
    filler3 _ _ _ t3 c.new-object.ensures c.new-4.ensures

pub set_ptr-requires : goal.set_ptr-requires
set_ptr-requires g c =
    let t1 = fill_take _ _ c.in-Ok.ensures c.take_free.ensures.taken in
    let t2 = fill_push _ _ _ _ t1 c.push_filler.ensures.pushed c.new-region.ensures c.new.ensures in
    let t3 = fill_split _ _ _ _ _ t2 c.split_filler.ensures.split c.new-object.ensures c.new-2.ensures c.new-3.ensures in
    let t4 = fill_make _ _ _ _ _ _ _ t3 c.make_object.ensures c.new-object.ensures c.new-4.ensures c.counts.ensures.pointers_are
    c.counts.ensures.weaks_are c.counts.ensures.values_are in
    (sample_is _ _ _ _ t4 c.new-object.ensures).pointers

pub set_value-requires : goal.set_value-requires
set_value-requires g c =
    let t1 = fill_take _ _ c.in-Ok.ensures c.take_free.ensures.taken in
    let t2 = fill_push _ _ _ _ t1 c.push_filler.ensures.pushed c.new-region.ensures c.new.ensures in
    let t3 = fill_split _ _ _ _ _ t2 c.split_filler.ensures.split c.new-object.ensures c.new-2.ensures c.new-3.ensures in
    let t4 = fill_make _ _ _ _ _ _ _ t3 c.make_object.ensures c.new-object.ensures c.new-4.ensures c.counts.ensures.pointers_are
    c.counts.ensures.weaks_are c.counts.ensures.values_are in
    let t5 = fill_pointer _ _ _ _ t4 c.set_ptr.ensures c.new-object.ensures c.new-rest.ensures in
    (sample_is _ _ _ _ t5 c.new-object.ensures).values

pub returns : goal.returns
returns g c =
    let t1 = fill_take _ _ c.in-Ok.ensures c.take_free.ensures.taken in
    let t2 = fill_push _ _ _ _ t1 c.push_filler.ensures.pushed c.new-region.ensures c.new.ensures in
    let t3 = fill_split _ _ _ _ _ t2 c.split_filler.ensures.split c.new-object.ensures c.new-2.ensures c.new-3.ensures in
    let t4 = fill_make _ _ _ _ _ _ _ t3 c.make_object.ensures c.new-object.ensures c.new-4.ensures c.counts.ensures.pointers_are
    c.counts.ensures.weaks_are c.counts.ensures.values_are in
    let t5 = fill_pointer _ _ _ _ t4 c.set_ptr.ensures c.new-object.ensures c.new-rest.ensures in
    let t6 = fill_value _ _ _ t5 c.set_value.ensures c.new-object.ensures in
    t6
