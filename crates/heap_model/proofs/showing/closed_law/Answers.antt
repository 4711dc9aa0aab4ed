use Rattle.heap_model.proofs.Shown.{closed}
use Rattle.heap_model.proofs.showing.closed_law.Goals as goal

pub returns : goal.returns
returns c = λ g h shows. closed g h shows
