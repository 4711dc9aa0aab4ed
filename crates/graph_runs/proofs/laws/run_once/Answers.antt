use Rattle.graph_runs.proofs.RunOnce.{run_once}
use Rattle.graph_runs.proofs.laws.run_once.Goals as goal

pub returns : goal.returns
returns c = run_once
