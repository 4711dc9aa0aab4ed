use Rattle.std.proofs.Common.{◌<◌, subst, sym}
use Rattle.heap_model.specs.Graph.{RootCounts}
use Rattle.step_core.proofs.Cores.Keeping.{placed_in}
use Rattle.step_core.proofs.Mutating.Near.{row_of_core}
use Rattle.step_core.proofs.heap.Core.row.Goals as goal

pub row-requires : goal.row-requires
row-requires c = subst (λ (p : RootCounts). c.args.mutator < p.mutators) (sym (placed_in _ _ c.self.view_is c.self.invariant)) c.requires

pub returns : goal.returns
returns c = row_of_core _ _ c.args.mutator c.row.result c.self.view_is c.self.invariant c.row.ensures
