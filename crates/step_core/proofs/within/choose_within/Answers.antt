use Rattle.std.proofs.Common.{◌<◌, arith, length, take}
use Rattle.std.proofs.lemmas.List.Elements.{All-weaker}
use Rattle.step_core.specs.Pause.{IsRowOf}
use Rattle.step_core.proofs.Pauses.Chosen.{best_moves, chosen_rows}
use Rattle.step_core.proofs.within.choose_within.Goals as goal

pub take_within-requires-clause-known : goal.take_within-requires-clause-known
take_within-requires-clause-known c =
    let t = c.args.table.now in
    let m = c.args.marker.now in
    let best = c.choose_regions-count.ensures.chosen in
    let rows = take c.choose_regions-count.result c.choose_regions-count.new.rows.items in
    rw c.as_mut_slice.ensures.value (All-weaker (IsRowOf t m.tams.previous m.bitmaps.previous)
    (λ row. row.region < length c.args.sets.now.sets) (λ x r. omega (arith, r.known, c.requires.each_region)) rows
    (chosen_rows t m.tams m.bitmaps.previous m.running c.args.budget rows
    (best_moves t m.tams m.bitmaps.previous m.running c.args.budget rows best)))
