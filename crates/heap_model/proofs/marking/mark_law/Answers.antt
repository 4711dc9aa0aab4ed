use Rattle.heap_model.specs.Graph.{IsReachable, next_name}
use Rattle.heap_model.proofs.Marks.{marks_more}
use Rattle.heap_model.proofs.marking.mark_law.Goals as goal

pub returns : goal.returns
returns c = λ s g h m m' shows i v. marks_more (IsReachable s) (next_name s) g h m m' shows i v
