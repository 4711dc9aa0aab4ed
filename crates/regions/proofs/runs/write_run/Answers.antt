use Rattle.std.proofs.Common.{◌≡◌, ◌+◌, ◌-◌, ℕ, ap, arith, ◌∙◌}
use Rattle.regions.proofs.Common.{paste, run_rows}
use Rattle.regions.proofs.LongRuns.RunMade.{run_row_put, nth_row, full_row, last_begins}
use Rattle.regions.proofs.runs.write_run.Goals as goal

pub overflow_mul-left : goal.overflow_mul-left
overflow_mul-left c =
    let begins = last_begins c.args.size c.args.words c.args.count c.requires.some c.requires.tight in
    omega (arith, begins)

pub overflow_sub-left : goal.overflow_sub-left
overflow_sub-left c =
    let begins = last_begins c.args.size c.args.words c.args.count c.requires.some c.requires.tight in
    omega (arith, begins)

pub loop-i-preserved : goal.loop-i-preserved
loop-i-preserved c =
    let less = c.loop-i-test.true in
    run_row_put _ _ c.args.at c.args.size c.args.words c.args.count c.loop-i.i _ c.requires.within (omega (arith, less))
    c.loop-i.invariant
    (nth_row _ _ _ _ _ c.nth_kind.ensures
    (full_row c.args.size c.args.words c.args.count c.loop-i.i c.requires.tight (omega (arith, less))))

pub returns : goal.returns
returns c =
    let end : c.loop-i.i ≡ c.args.count - 1 = omega (arith, c.loop-i-test.false, c.loop-i.auto.i-end) in
    let next : c.args.count - 1 + 1 ≡ c.args.count = omega (arith, c.requires.some) in
    let rows = c.loop-i.invariant
    ∙ ap (λ (i : ℕ). paste c.args.rows.now c.args.at (run_rows c.args.size c.args.words 0 c.args.count) i) end in
    run_row_put _ _ c.args.at c.args.size c.args.words c.args.count (c.args.count - 1) _ c.requires.within
    (omega (arith, c.requires.some)) rows (nth_row _ _ _ _ _ c.nth_kind-2.ensures c.min.ensures)
    ∙ ap (λ (i : ℕ). paste c.args.rows.now c.args.at (run_rows c.args.size c.args.words 0 c.args.count) i) next
