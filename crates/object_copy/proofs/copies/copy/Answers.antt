use Rattle.std.proofs.Common.{arith}
use Rattle.object_copy.proofs.Opened.{opened}
use Rattle.object_copy.proofs.Copied.{can_copy, can_forward, copied, changed}
use Rattle.object_copy.proofs.copies.copy.Goals as goal

pub copy_object-to-requires : goal.copy_object-to-requires
copy_object-to-requires c =
    let r = c.requires in
    let w = opened c.args.table.now c.destination_for-region.new.table c.args.destinations.now c.destination_for-region.new.destinations
    c.object_size-size.result c.destination_for-region.result r.known r.last c.destination_for-region.ensures in
    let k = can_copy c.args.table.now c.destination_for-region.new.table c.args.destinations.now c.destination_for-region.new.destinations
    c.destination_for-region.result c.args.from c.object_size-size.result r.known r.last
    c.destination_for-region.ensures c.law.ensures c.object_size-size.ensures r.object r.ordinary in
    record { object = k.object; known = (let a = w.count in let b = w.known in omega arith); ordinary = w.ordinary; room = k.room }

pub forward-requires : goal.forward-requires
forward-requires c =
    let r = c.requires in
    let k = can_forward c.args.table.now c.destination_for-region.new.table c.args.destinations.now
    c.destination_for-region.new.destinations c.destination_for-region.result c.args.from c.object_size-size.result r.known r.last
    c.destination_for-region.ensures c.law.ensures c.object_size-size.ensures r.object r.ordinary c.copy_object-to.new.self
    c.copy_object-to.result c.copy_object-to.ensures.at c.copy_object-to.ensures.pushed r.untargeted in
    record { object = k.object; ordinary = k.ordinary; copy = k.copy; apart = k.apart; untargeted = k.untargeted }

pub returns-clause-copies : goal.returns-clause-copies
returns-clause-copies c =
    let r = c.requires in
    copied c.args.table.now c.destination_for-region.new.table c.args.destinations.now c.destination_for-region.new.destinations
    c.destination_for-region.result c.args.from c.object_size-size.result r.known r.last
    c.destination_for-region.ensures c.law.ensures c.object_size-size.ensures r.object r.ordinary c.copy_object-to.new.self
    c.copy_object-to.result c.copy_object-to.ensures.at c.copy_object-to.ensures.pushed
    c.forward.new.self c.count_words.new.self c.forward.ensures c.count_words.ensures

pub returns-clause-changes : goal.returns-clause-changes
returns-clause-changes c =
    let r = c.requires in
    changed c.args.table.now c.destination_for-region.new.table c.args.destinations.now c.destination_for-region.new.destinations
    c.destination_for-region.result c.args.from c.object_size-size.result r.known r.last
    c.destination_for-region.ensures c.law.ensures c.object_size-size.ensures r.object r.ordinary c.copy_object-to.new.self
    c.copy_object-to.result c.copy_object-to.ensures.at c.copy_object-to.ensures.pushed
    c.forward.new.self c.count_words.new.self c.forward.ensures c.count_words.ensures
