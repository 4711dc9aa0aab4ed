use Rattle.step_core.proofs.Cores.Running.{runs_on}
use Rattle.step_core.proofs.heap.Core.perform.Goals as goal

pub returns-clause-runs : goal.returns-clause-runs
returns-clause-runs c config es before =
    runs_on config es _ c.args.self.now c.step-reply.new.self before c.step-reply.ensures.follows c.step-reply.ensures.does
    c.step-reply.ensures.full c.law_remembers.ensures.core c.law_remembers.ensures.cards c.law_whole.ensures
