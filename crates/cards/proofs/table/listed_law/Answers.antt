use Rattle.cards.proofs.Laws.{where_dirty, queued_is_dirty, logged_is_dirty}
use Rattle.cards.proofs.table.listed_law.Goals as goal

pub returns-clause-dirty : goal.returns-clause-dirty
returns-clause-dirty c = λ t card once h. where_dirty t card once h

pub returns-clause-queue : goal.returns-clause-queue
returns-clause-queue c = λ t card once h. queued_is_dirty t card once h

pub returns-clause-logs : goal.returns-clause-logs
returns-clause-logs c = λ t card once h. logged_is_dirty t card once h
