use Rattle.mutators.specs.Journals.{event_of}
use Rattle.step_core.proofs.Cores.Running.{runs_on}
use Rattle.mutators.proofs.journal.record.Goals as goal

pub returns-clause-runs : goal.returns-clause-runs
returns-clause-runs c config runs =
    runs_on config c.args.events.now.items (event_of c.args.actor c.args.step.now c.step-reply.result)
    c.args.core.now c.step-reply.new.self runs c.step-reply.ensures.follows c.step-reply.ensures.does c.step-reply.ensures.full
    c.law_remembers.ensures.core c.law_remembers.ensures.cards c.law_whole.ensures
