use Rattle.graph_runs.proofs.RunOnce.{never_both}
use Rattle.graph_runs.proofs.laws.judged_once.Goals as goal

pub returns : goal.returns
returns c = never_both
