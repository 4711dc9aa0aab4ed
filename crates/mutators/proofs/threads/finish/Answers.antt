use Rattle.mutators.proofs.Plans.{whole_run}
use Rattle.mutators.proofs.threads.finish.Goals as goal

pub returns-clause-run : goal.returns-clause-run
returns-clause-run c =
    whole_run c.args.plan.now c.args.cast.markers c.args.cast.refiners c.args.journal
    c.into_record.result c.requires c.into_record.ensures.keeps (c.is_ended-is_ended.ensures.0 (c.stopped_by.ensures.ended c.in_default.is))
    c.into_record.ensures.config c.into_record.ensures.events

pub returns-in-Some-clause-fault : goal.returns-in-Some-clause-fault
returns-in-Some-clause-fault c = c.in-Some.ensures.fault c.args.plan.now.config
