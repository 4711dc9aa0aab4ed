use Rattle.step_core.proofs.Cores.Filling.{nil_refused}
use Rattle.step_core.proofs.heap.Core.address_of.Goals as goal

pub returns-clause-nil : goal.returns-clause-nil
returns-clause-nil c = nil_refused c.args.self.now c.args.mutator c.args.object c.register.result c.register.ensures.leads
