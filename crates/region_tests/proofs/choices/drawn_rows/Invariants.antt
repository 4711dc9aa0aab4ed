use Rattle.std.proofs.Common.{◌<◌, All}
use Rattle.region_tests.proofs.choices.drawn_rows.Given as goal

abbrev pub invariant-loop-place : goal.invariant-loop-place
invariant-loop-place l = All (λ row. row.live_bound < 16) l.rows
