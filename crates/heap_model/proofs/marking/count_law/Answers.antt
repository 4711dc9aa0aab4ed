use Rattle.heap_model.proofs.Counted.{counted}
use Rattle.heap_model.proofs.marking.count_law.Goals as goal

pub returns : goal.returns
returns c = λ s g h m shows i done marks listed. counted s g h m shows i done marks listed
