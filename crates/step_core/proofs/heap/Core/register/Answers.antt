use Rattle.step_core.proofs.Cores.Keeping.{register_facts}
use Rattle.step_core.proofs.heap.Core.register.Goals as goal

pub returns : goal.returns
returns c = register_facts _ _ c.args.mutator c.args.register c.register.result c.self.view_is c.self.invariant c.requires.mutator
    c.requires.register c.register.ensures
