use Rattle.heap_model.specs.Graph.{IsReachable, next_name}
use Rattle.heap_model.proofs.Mutate.{object_set}
use Rattle.heap_model.proofs.marking.put_law.Goals as goal

pub returns : goal.returns
returns c = λ s g h h' m m' d x y field was w shows i root held there v set weaks helds saved.
    object_set (IsReachable s) (next_name s) g h m shows i h' m' d x y field was w root held there v set weaks helds saved
