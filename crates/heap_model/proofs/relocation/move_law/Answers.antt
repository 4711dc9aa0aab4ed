use Rattle.heap_model.specs.Graph.{IsReachable, next_name}
use Rattle.heap_model.proofs.Relocated.{relocated_shows, relocated_invariant}
use Rattle.heap_model.proofs.relocation.move_law.Goals as goal

pub returns-clause-shows : goal.returns-clause-shows
returns-clause-shows c = λ place g h h' shows r. relocated_shows place g h h' shows r

pub returns-clause-marking : goal.returns-clause-marking
returns-clause-marking c = λ place s g h h' m shows r keeps i. relocated_invariant place g h h' shows r (IsReachable s)
    (next_name s) m i keeps
