use Rattle.heap_model.specs.Graph.{IsReachable, next_name}
use Rattle.heap_model.proofs.Mutate.{values_set}
use Rattle.heap_model.proofs.marking.write_law.Goals as goal

pub returns : goal.returns
returns c = λ s g h h' m d x y shows i step same pairs. values_set (IsReachable s) (next_name s) g h h' m shows i d
    x y step same pairs
