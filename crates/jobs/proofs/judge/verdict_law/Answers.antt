use Rattle.jobs.proofs.Once.{once}
use Rattle.jobs.proofs.judge.verdict_law.Goals as goal

pub returns-clause-once : goal.returns-clause-once
returns-clause-once c = once c.judged_once.ensures
