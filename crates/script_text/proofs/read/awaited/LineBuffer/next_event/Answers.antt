use Rattle.std.proofs.Common.{subst, sym, ◌∙◌}
use Rattle.script_text.specs.Awaited.{IsUnended}
use Rattle.script_text.specs.Events.{event_line_of}
use Rattle.script_text.proofs.Parts.Refused.{next_fails}
use Rattle.script_text.proofs.read.awaited.LineBuffer.next_event.Goals as goal

pub returns-in-Err-read_on-clause-next : goal.returns-in-Err-read_on-clause-next
returns-in-Err-read_on-clause-next g c =
    let none = c.in_default.ensures.none in
    let so_far = c.loop-taken.invariant in
    next_fails (event_line_of c.args.count c.args.config.now) c.args.self.now c.take_event.new.self c.read_on.new.self c.args.reader.now
    c.loop-taken.reader c.read_on.new.reader c.read_on.result c.in-Err-read_on.fault so_far.0
    c.in-Err-read_on.is so_far.1 (none.1 ∙ so_far.2) (subst IsUnended (sym none.1) none.0) c.read_on.ensures.line c.read_on.ensures.fails
