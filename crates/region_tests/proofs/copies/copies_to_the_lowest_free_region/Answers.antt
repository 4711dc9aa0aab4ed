use Rattle.std.proofs.Common.{◌≡◌, ◌*◌, ◌∙◌, ℕ, refl, arith, ap}
use Rattle.object_copy.specs.Copies.{Destinations}
use Rattle.region_tests.specs.Copied.{copied}
use Rattle.region_tests.proofs.CopySamples.{can_copy, stored_there}
use Rattle.region_tests.proofs.copies.copies_to_the_lowest_free_region.Goals as goal

product : (n w : ℕ) → n ≡ 4 → w ≡ 16 → n * w ≡ 64
product n w e f = rw (e, f) refl

pub copy-requires-clause-object : goal.copy-requires-clause-object
copy-requires-clause-object g c = (can_copy _ _ c.in_ok-table.ensures c.new-object.ensures).object

pub copy-requires-clause-ordinary : goal.copy-requires-clause-ordinary
copy-requires-clause-ordinary g c = (can_copy _ _ c.in_ok-table.ensures c.new-object.ensures).ordinary

pub copy-requires-clause-small : goal.copy-requires-clause-small
copy-requires-clause-small g c = let can = can_copy _ _ c.in_ok-table.ensures c.new-object.ensures in omega (arith, can.words, can.size)

pub copy-requires-clause-count : goal.copy-requires-clause-count
copy-requires-clause-count g c =
    let can = can_copy _ _ c.in_ok-table.ensures c.new-object.ensures in
    omega (arith, can.words, ap (λ (d : Destinations). d.words) c.in_ok-destinations.ensures)

pub first_tile-requires : goal.first_tile-requires
first_tile-requires g c =
    let can = can_copy _ _ c.in_ok-table.ensures c.new-object.ensures in
    let there = stored_there _ _ c.in_ok-table.ensures c.new-object.ensures in
    let copies = c.copy.ensures.copies copied there in
    let changes = c.copy.ensures.changes copied copies.region there (ap (λ (d : Destinations). d.last) copies.places_are
    ∙ copies.opens.last) in
    let all = product _ _ (changes.count ∙ can.count) (changes.size ∙ can.size) in
    omega (arith, all, c.new-2.ensures)
