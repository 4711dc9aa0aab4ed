use Rattle.regions.proofs.LongRuns.RunMade.{run_kind_first, run_kind_rest}
use Rattle.regions.proofs.runs.nth_kind.Goals as goal

pub returns-then-i-eq0 : goal.returns-then-i-eq0
returns-then-i-eq0 c = run_kind_first _ c.if-i-eq0.true

pub returns-else-i-eq0 : goal.returns-else-i-eq0
returns-else-i-eq0 c = run_kind_rest _ c.if-i-eq0.false
