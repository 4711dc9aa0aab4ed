use Rattle.jobs.proofs.FollowLaws.{followed_yes, followed_no}
use Rattle.jobs.proofs.follow.follow_law.Goals as goal

pub returns-clause-yes : goal.returns-clause-yes
returns-clause-yes c = followed_yes c.verdict_law.ensures.yes

pub returns-clause-no : goal.returns-clause-no
returns-clause-no c = λ text left n e given found more v j. followed_no c.verdict_law.ensures.once text n e given found more v j
