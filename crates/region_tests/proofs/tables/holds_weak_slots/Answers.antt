use Rattle.std.proofs.Common.{None}
use Rattle.region_tests.proofs.WeakSamples.{slotted_is, slotted_release}
use Rattle.region_tests.proofs.tables.holds_weak_slots.Goals as goal

pub lowest_tile-requires : goal.lowest_tile-requires
lowest_tile-requires g c = (slotted_release None None 0 _ _ c.in_ok-table.ensures c.new-region.ensures).known

pub about-requires : goal.about-requires
about-requires g c = (slotted_is _ _ _ _ _ c.fill_slots.ensures c.new-object.ensures).object

pub fields-requires-clause-pointers : goal.fields-requires-clause-pointers
fields-requires-clause-pointers g c = (slotted_is _ _ _ _ _ c.fill_slots.ensures c.new-object.ensures).pointers

pub fields-requires-clause-values : goal.fields-requires-clause-values
fields-requires-clause-values g c = (slotted_is _ _ _ _ _ c.fill_slots.ensures c.new-object.ensures).values

pub slots-requires-clause-object : goal.slots-requires-clause-object
slots-requires-clause-object g c = (slotted_is _ _ _ _ _ c.fill_slots.ensures c.new-object.ensures).object

pub slots-requires-clause-weaks : goal.slots-requires-clause-weaks
slots-requires-clause-weaks g c = (slotted_is _ _ _ _ _ c.fill_slots.ensures c.new-object.ensures).weaks

pub ends-requires-clause-object : goal.ends-requires-clause-object
ends-requires-clause-object g c = (slotted_is _ _ _ _ _ c.fill_slots.ensures c.new-object.ensures).object

pub ends-requires-clause-fields : goal.ends-requires-clause-fields
ends-requires-clause-fields g c = (slotted_is _ _ _ _ _ c.fill_slots.ensures c.new-object.ensures).fields

pub release-requires : goal.release-requires
release-requires g c =
    let p = slotted_release _ _ _ _ _ c.fill_slots.ensures c.new-region.ensures in
    record { known = p.known; releasable = p.releasable; untargeted = p.untargeted }
