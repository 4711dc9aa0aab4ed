use Rattle.remembered_sets.proofs.Laws.{added_stays, leads_stays}
use Rattle.remembered_sets.proofs.sets.run_law.Goals as goal

pub returns-clause-covered : goal.returns-clause-covered
returns-clause-covered c = λ s region card changes shaped known h leave. added_stays changes s region card shaped known h leave

pub returns-clause-leads : goal.returns-clause-leads
returns-clause-leads c =
    λ s region card changes shaped known h leave leave_own. leads_stays changes s region card shaped known h leave leave_own
