use Rattle.object_graph.proofs.ReasonLaws.{may_stand}
use Rattle.object_graph.proofs.laws.given_law.Goals as goal

pub returns : goal.returns
returns c = may_stand
