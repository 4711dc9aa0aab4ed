use Rattle.mutators.proofs.Own.{own_events}
use Rattle.mutators.proofs.journal.Journal.into_record.Goals as goal

pub of_events-requires : goal.of_events-requires
of_events-requires c = rw c.config.ensures.config (own_events c.self.inside.core.config c.self.inside.events.items c.self.invariant.own)
