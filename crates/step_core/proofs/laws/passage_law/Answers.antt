use Rattle.graph_runs.specs.State.{first_state}
use Rattle.step_core.specs.Fresh.{fresh_core}
use Rattle.step_core.proofs.Cores.Following.{passage_is_run}
use Rattle.step_core.proofs.laws.passage_law.Goals as goal

pub returns-clause-passage : goal.returns-clause-passage
returns-clause-passage c = passage_is_run

pub returns-clause-new_heap : goal.returns-clause-new_heap
returns-clause-new_heap c = λ config es d h.
    (h.runs.last, (passage_is_run (first_state config) (fresh_core config) es h.runs.last d h.runs.passage, h.runs.stands))
