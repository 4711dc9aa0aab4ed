use Rattle.jobs.proofs.Told.{yes_by, no_by}
use Rattle.jobs.proofs.judge.status_law.Goals as goal

pub returns-clause-yes : goal.returns-clause-yes
returns-clause-yes c = λ given left old new err told p.
    yes_by c.verdict_law.ensures.yes p.outcome given left old new err told p.judges p.tells

pub returns-clause-no : goal.returns-clause-no
returns-clause-no c = λ given left old new err told p.
    no_by c.verdict_law.ensures.no p.outcome given left old new err told p.judges p.tells
