use Rattle.refinement.proofs.Holders.{closed_inside}
use Rattle.refinement.proofs.laws.inside_law.Goals as goal

pub returns : goal.returns
returns c = λ t tops previous roots closed. closed_inside t tops previous roots closed
