use Rattle.heap_model.proofs.Changed.{object_set_shows}
use Rattle.heap_model.proofs.showing.object_set_law.Goals as goal

pub returns : goal.returns
returns c = λ g h h' shows d x y o p step named pointers weaks held keyed values. object_set_shows g h h' shows d x y o p step
    named pointers weaks held keyed values
