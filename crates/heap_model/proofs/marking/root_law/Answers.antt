use Rattle.heap_model.specs.Graph.{IsReachable, next_name}
use Rattle.heap_model.proofs.Mutate.{root_set}
use Rattle.heap_model.proofs.marking.root_law.Goals as goal

pub returns : goal.returns
returns c = λ s g h h' m place w shows i held step. root_set (IsReachable s) (next_name s) g h m shows i h' place w held step
