use Rattle.heap_model.specs.Graph.{IsReachable, next_name}
use Rattle.heap_model.proofs.Same.{same_invariant}
use Rattle.heap_model.proofs.marking.same_marking_law.Goals as goal

pub returns : goal.returns
returns c = λ s h h' m m' i heap marks. same_invariant (IsReachable s) (next_name s) h h' m m' heap marks i
