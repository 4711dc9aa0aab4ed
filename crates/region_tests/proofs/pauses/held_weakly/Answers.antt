use Rattle.std.proofs.Common.{refl}
use Rattle.region_tests.proofs.PauseTables.{is_two, usable_two, is_two_cut, second_filler, is_both, has_slot, is_by_weak_slot}
use Rattle.region_tests.proofs.pauses.held_weakly.Goals as goal

pub push_filler-requires : goal.push_filler-requires
push_filler-requires c =
    let t1 = is_two _ _ c.in_ok-table.ensures c.take_free.ensures.taken in
    let u = usable_two _ _ _ t1 c.new.ensures c.new-2.ensures in
    record { known = u.known; ordinary = u.ordinary; room = u.room }

pub make_object-requires-clause-there : goal.make_object-requires-clause-there
make_object-requires-clause-there c =
    let t1 = is_two _ _ c.in_ok-table.ensures c.take_free.ensures.taken in
    let t2 = is_two_cut _ _ _ _ t1 c.push_filler.ensures.pushed c.new.ensures c.new-2.ensures in
    second_filler _ _ _ t2 c.new-object.ensures c.new-5.ensures

pub set_weak-requires : goal.set_weak-requires
set_weak-requires c =
    let t1 = is_two _ _ c.in_ok-table.ensures c.take_free.ensures.taken in
    let t2 = is_two_cut _ _ _ _ t1 c.push_filler.ensures.pushed c.new.ensures c.new-2.ensures in
    let t3 = is_both _ _ _ _ _ _ _ t2 c.make_object.ensures c.new-object.ensures c.new-5.ensures c.new-3.ensures refl c.new-4.ensures in
    has_slot _ _ t3 c.new-6.ensures

pub returns : goal.returns
returns c =
    let t1 = is_two _ _ c.in_ok-table.ensures c.take_free.ensures.taken in
    let t2 = is_two_cut _ _ _ _ t1 c.push_filler.ensures.pushed c.new.ensures c.new-2.ensures in
    let t3 = is_both _ _ _ _ _ _ _ t2 c.make_object.ensures c.new-object.ensures c.new-5.ensures c.new-3.ensures refl c.new-4.ensures in
    is_by_weak_slot _ _ _ _ t3 c.set_weak.ensures c.new-6.ensures c.new-object.ensures
