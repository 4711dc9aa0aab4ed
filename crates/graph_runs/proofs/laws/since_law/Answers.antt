use Rattle.std.proofs.Common.{Option, subst}
use Rattle.heap_model.specs.Graph.{Graph}
use Rattle.graph_runs.specs.State.{ForSnapshot, IsEarlier}
use Rattle.graph_runs.specs.Since.{IsSince}
use Rattle.graph_runs.proofs.SinceLaws.{happens_since, reaches_known, since_unreached}
use Rattle.graph_runs.proofs.laws.since_law.Goals as goal

pub returns-clause-begins : goal.returns-clause-begins
returns-clause-begins c = λ k. tt

pub returns-clause-step : goal.returns-clause-step
returns-clause-step c = happens_since

pub returns-clause-reached : goal.returns-clause-reached
returns-clause-reached c = λ st s since is n r. reaches_known s st.graph
    (subst (λ (o : Option Graph). ForSnapshot o (λ t. IsSince t st.graph)) is since) n r

pub returns-clause-unreached : goal.returns-clause-unreached
returns-clause-unreached c = λ st s sound since is.
    since_unreached s st.graph (subst (λ (o : Option Graph). ForSnapshot o (λ t. IsEarlier t st.graph)) is sound.snapshot)
    (subst (λ (o : Option Graph). ForSnapshot o (λ t. IsSince t st.graph)) is since)
