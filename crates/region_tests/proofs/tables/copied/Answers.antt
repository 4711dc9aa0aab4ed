use Rattle.region_tests.proofs.TableSamples.{move_take, move_copy, copyable3}
use Rattle.region_tests.proofs.tables.copied.Goals as goal

pub copy_object-requires : goal.copy_object-requires
copy_object-requires g c =
    let t = move_take _ _ c.in_ok-table.ensures c.take_free.ensures.taken in
    let p = copyable3 _ _ _ t c.new-object.ensures c.new-to.ensures in
    record { object = p.object; known = p.usable.known; ordinary = p.usable.ordinary; room = p.usable.room }

pub returns : goal.returns
returns g c =
    let t = move_take _ _ c.in_ok-table.ensures c.take_free.ensures.taken in
    move_copy _ _ _ _ t c.copy_object.ensures.pushed c.new-object.ensures c.new-to.ensures
