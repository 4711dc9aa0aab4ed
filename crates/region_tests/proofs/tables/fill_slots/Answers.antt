use Rattle.std.proofs.Common.{None}
use Rattle.region_tests.proofs.WeakSamples.{slot_weak, slot_field, slot_value, slotted_is}
use Rattle.region_tests.proofs.tables.fill_slots.Goals as goal

pub set_weak-requires : goal.set_weak-requires
set_weak-requires c = (slotted_is None None _ _ _ c.requires c.new-object.ensures).weaks

pub set_field-requires : goal.set_field-requires
set_field-requires c =
    let t4 = slot_weak _ _ _ _ c.requires c.set_weak.ensures c.new-object.ensures c.new.ensures in
    (slotted_is _ _ _ _ _ t4 c.new-object.ensures).field

pub set_value-requires : goal.set_value-requires
set_value-requires c =
    let t4 = slot_weak _ _ _ _ c.requires c.set_weak.ensures c.new-object.ensures c.new.ensures in
    let t5 = slot_field _ _ _ _ t4 c.set_field.ensures c.new-object.ensures c.new-object.ensures in
    (slotted_is _ _ _ _ _ t5 c.new-object.ensures).values

pub returns : goal.returns
returns c =
    let t4 = slot_weak _ _ _ _ c.requires c.set_weak.ensures c.new-object.ensures c.new.ensures in
    let t5 = slot_field _ _ _ _ t4 c.set_field.ensures c.new-object.ensures c.new-object.ensures in
    slot_value _ _ _ t5 c.set_value.ensures c.new-object.ensures
