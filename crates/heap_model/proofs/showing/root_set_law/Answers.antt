use Rattle.heap_model.proofs.Changed.{root_set_shows}
use Rattle.heap_model.proofs.showing.root_set_law.Goals as goal

pub returns : goal.returns
returns c = λ g h h' shows place w v shown step. root_set_shows g h h' shows place w v shown step
