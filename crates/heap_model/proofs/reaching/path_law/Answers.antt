use Rattle.heap_model.proofs.Walks.{by_order, from_order, from_path}
use Rattle.heap_model.proofs.reaching.path_law.Goals as goal

pub returns-clause-order : goal.returns-clause-order
returns-clause-order c = λ g n. (by_order g n, from_order g n)

pub returns-clause-path : goal.returns-clause-path
returns-clause-path c = λ g n p. from_path g n p
