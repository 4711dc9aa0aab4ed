use Rattle.jobs.proofs.FollowLaws.{yes_by, no_by}
use Rattle.jobs.proofs.follow.follow_status_law.Goals as goal

pub returns-clause-yes : goal.returns-clause-yes
returns-clause-yes c = λ explained given left old new err told p.
    yes_by c.verdict_law.ensures.yes p.outcome explained given left old new err told p.follows p.tells

pub returns-clause-no : goal.returns-clause-no
returns-clause-no c = λ explained given left old new err told p.
    no_by c.verdict_law.ensures.no p.outcome explained given left old new err told p.follows p.tells
