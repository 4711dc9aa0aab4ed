use Rattle.jobs.proofs.FollowLaws.{explained_judged}
use Rattle.jobs.proofs.explain.explained_law.Goals as goal

pub returns : goal.returns
returns c = explained_judged
