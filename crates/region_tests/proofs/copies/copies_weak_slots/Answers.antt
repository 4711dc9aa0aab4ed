use Rattle.std.proofs.Common.{◌∙◌, arith, ap}
use Rattle.object_copy.specs.Copies.{Destinations}
use Rattle.region_tests.specs.Copied.{copied}
use Rattle.region_tests.proofs.CopySamples.{can_copy, has_slot, stored_there}
use Rattle.region_tests.proofs.copies.copies_weak_slots.Goals as goal

pub copy-place-requires-clause-object : goal.copy-place-requires-clause-object
copy-place-requires-clause-object g c = (can_copy _ _ c.in_ok-table.ensures c.new-object.ensures).object

pub copy-place-requires-clause-ordinary : goal.copy-place-requires-clause-ordinary
copy-place-requires-clause-ordinary g c = (can_copy _ _ c.in_ok-table.ensures c.new-object.ensures).ordinary

pub copy-place-requires-clause-small : goal.copy-place-requires-clause-small
copy-place-requires-clause-small g c =
    let can = can_copy _ _ c.in_ok-table.ensures c.new-object.ensures in
    omega (arith, can.words, can.size)

pub copy-place-requires-clause-count : goal.copy-place-requires-clause-count
copy-place-requires-clause-count g c =
    let can = can_copy _ _ c.in_ok-table.ensures c.new-object.ensures in
    omega (arith, can.words, ap (λ (d : Destinations). d.words) c.in_ok-destinations.ensures)

pub slots-requires-clause-object : goal.slots-requires-clause-object
slots-requires-clause-object g c =
    let there = stored_there _ _ c.in_ok-table.ensures c.new-object.ensures in
    let copies = c.copy-place.ensures.copies copied there in
    let changes =
    c.copy-place.ensures.changes copied copies.region there (ap (λ (d : Destinations). d.last) copies.places_are ∙ copies.opens.last) in
    (has_slot _ _ changes.copy).object

pub slots-requires-clause-weaks : goal.slots-requires-clause-weaks
slots-requires-clause-weaks g c =
    let there = stored_there _ _ c.in_ok-table.ensures c.new-object.ensures in
    let copies = c.copy-place.ensures.copies copied there in
    let changes =
    c.copy-place.ensures.changes copied copies.region there (ap (λ (d : Destinations). d.last) copies.places_are ∙ copies.opens.last) in
    (has_slot _ _ changes.copy).weaks
