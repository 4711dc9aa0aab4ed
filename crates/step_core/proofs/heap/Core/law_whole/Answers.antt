use Rattle.std.proofs.Common.{subst}
use Rattle.graph_runs.specs.State.{State}
use Rattle.step_core.specs.Stands.{CoreState, Stands, IsWhole}
use Rattle.step_core.proofs.Mutating.Reading.{whole_core}
use Rattle.step_core.proofs.heap.Core.law_whole.Goals as goal

pub returns : goal.returns
returns c = subst (λ (d : CoreState). (s : State) → Stands s d → IsWhole s.graph d) c.self.view_is (whole_core _ c.law.ensures)
