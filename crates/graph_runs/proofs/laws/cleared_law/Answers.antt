use Rattle.std.proofs.Common.{Option, subst}
use Rattle.heap_model.specs.Graph.{Graph}
use Rattle.graph_runs.specs.State.{ForSnapshot}
use Rattle.graph_runs.specs.Since.{IsSince}
use Rattle.graph_runs.proofs.SinceLaws.{cleared_unreached}
use Rattle.graph_runs.proofs.laws.cleared_law.Goals as goal

pub returns : goal.returns
returns c = λ st s after since is clears. cleared_unreached s st.graph after
    (subst (λ (o : Option Graph). ForSnapshot o (λ t. IsSince t st.graph)) is since) clears
