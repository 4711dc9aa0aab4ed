use Rattle.std.proofs.Common.{subst}
use Rattle.step_core.specs.Stands.{CoreState}
use Rattle.step_core.specs.Cycle.{HasSettled}
use Rattle.step_core.proofs.Cycles.Settling.{rest_kept, rest_settled, settled_nothing}
use Rattle.step_core.proofs.heap.Core.settle.Goals as goal

pub invariant_of-self : goal.invariant_of-self
invariant_of-self c = rest_kept _ c.self.invariant _ c.in-Some.is _ c.clear_rest.ensures

pub returns-in_default : goal.returns-in_default
returns-in_default c = subst (λ (d : CoreState). HasSettled d d) c.self.view_is
    (settled_nothing _ c.self.invariant c.law.ensures c.in_default.is)

pub returns : goal.returns
returns c = rest_settled _ c.self.invariant _ c.in-Some.is _ c.clear_rest.ensures c.law-2.ensures _ c.self.view_is
