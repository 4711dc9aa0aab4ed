use Rattle.heap_model.proofs.Changed.{same_shows}
use Rattle.heap_model.proofs.showing.same_heap_law.Goals as goal

pub returns : goal.returns
returns c = λ g h h' shows same. same_shows g h h' shows same
