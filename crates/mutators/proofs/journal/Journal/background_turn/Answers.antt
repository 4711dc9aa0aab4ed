use Rattle.mutators.proofs.Rows.{other_turn}
use Rattle.mutators.proofs.journal.Journal.background_turn.Goals as goal

pub invariant_of-self-2 : goal.invariant_of-self-2
invariant_of-self-2 c =
    (other_turn c.args.self.now _ c.record.new.core c.args.actor c.args.step c.in_ok-record.field-0 c.record.new.events.items
    c.self.view_is c.self.invariant c.requires.cast c.requires.actor c.requires.next c.in_ok-record.ensures.runs c.in_ok-record.ensures.does
    c.in_ok-record.ensures.config c.in_ok-record.ensures.events).0

pub returns-clause-turn : goal.returns-clause-turn
returns-clause-turn c =
    (other_turn c.args.self.now _ c.record.new.core c.args.actor c.args.step c.in_ok-record.field-0 c.record.new.events.items
    c.self.view_is c.self.invariant c.requires.cast c.requires.actor c.requires.next c.in_ok-record.ensures.runs c.in_ok-record.ensures.does
    c.in_ok-record.ensures.config c.in_ok-record.ensures.events).1
