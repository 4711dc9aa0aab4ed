use Rattle.std.proofs.Common.{◌<◌, ap, arith}
use Rattle.std.proofs.lemmas.List.Elements.{All-replicate}
use Rattle.region_choice.specs.declared.LiveRow.{LiveRow}
use Rattle.region_tests.proofs.choices.many_rows.Goals as goal

pub loop-place-init : goal.loop-place-init
loop-place-init c =
    let zero = ap (λ (r : LiveRow). r.live_bound) c.row-rows.ensures in
    All-replicate (λ (row : LiveRow). row.live_bound < 1024) 100 c.row-rows.result (omega (arith, zero))
