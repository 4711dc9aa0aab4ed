use Rattle.std.proofs.Common.{arith}
use Rattle.std.proofs.lemmas.Option.{slice_get-get_or, slice_get_within}
use Rattle.heap_view.proofs.search.search.Goals as goal

pub loop-place-preserved : goal.loop-place-preserved
loop-place-preserved c =
    let (searched, keeps) = c.in_ok-follow.ensures in
    let q = c.loop-place.stages.items in
    let lt = c.loop-place-test.true in
    let there = slice_get-get_or q c.loop-place.place (record { at = 0; from = 0; depth = 0 }) (omega (arith, lt, c.len.ensures)) in
    let within = slice_get_within c.follow.new.stages.items c.loop-place.place _ (keeps c.loop-place.place _ there) in
    (omega (arith, within), searched)
