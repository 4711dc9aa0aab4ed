use Rattle.heap_model.specs.Graph.{IsReachable, next_name}
use Rattle.heap_model.proofs.Mutate.{object_added}
use Rattle.heap_model.proofs.marking.new_law.Goals as goal

pub returns : goal.returns
returns c = λ s h h' m a x place i new above step away. object_added (IsReachable s) (next_name s) h m i h' a x place new above step away
