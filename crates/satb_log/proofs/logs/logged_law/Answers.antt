use Rattle.std.proofs.Common.{[]}
use Rattle.satb_log.proofs.Logged.{of_one, stays, stays_logged, new_logged, only_logged, only_rest, none_logged}
use Rattle.satb_log.proofs.logs.logged_law.Goals as goal

pub returns-clause-stays : goal.returns-clause-stays
returns-clause-stays c = λ logs m a b known h. stays_logged logs m a b known h

pub returns-clause-new : goal.returns-clause-new
returns-clause-new c = λ logs m a known. new_logged logs m a known

pub returns-clause-only : goal.returns-clause-only
returns-clause-only c = λ logs m a b h. only_logged logs m a b h

pub returns-clause-drained : goal.returns-clause-drained
returns-clause-drained c = λ logs m b h. stays logs m [] b h

pub returns-clause-rest : goal.returns-clause-rest
returns-clause-rest c = λ logs m b h. only_rest logs m b h

pub returns-clause-one : goal.returns-clause-one
returns-clause-one c = λ logs m b h. of_one logs m b h

pub returns-clause-empty : goal.returns-clause-empty
returns-clause-empty c = λ logs h. none_logged logs h
