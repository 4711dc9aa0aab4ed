use Rattle.heap_model.specs.Graph.{IsReachable, next_name}
use Rattle.heap_model.proofs.Waiting.{will_cleared, cleared_further, cleared_invariant}
use Rattle.heap_model.proofs.clearing.further_law.Goals as goal

pub returns-clause-shows : goal.returns-clause-shows
returns-clause-shows c = λ g h h' s clears. will_cleared g h h' s clears

pub returns-clause-further : goal.returns-clause-further
returns-clause-further c = λ h h' from to clears done on. cleared_further h h' from to clears done on

pub returns-clause-marking : goal.returns-clause-marking
returns-clause-marking c = λ s h h' m clears i. cleared_invariant (IsReachable s) (next_name s) h h' m clears i
