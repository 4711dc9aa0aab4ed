use Rattle.std.proofs.Common.{◌∙◌}
use Rattle.script_text.proofs.Reading.TwelveEvents.{event_line_words}
use Rattle.script_text.proofs.BothWays.EventsRead.{event_line_known}
use Rattle.script_text.proofs.read.records.event_line.Goals as goal

pub returns-clause-exact : goal.returns-clause-exact
returns-clause-exact c =
    c.event.ensures ∙ event_line_words c.args.count c.args.config.now c.args.line.now _ c.if-line-gt-LONGEST_LINE.false c.requires

pub returns-clause-known : goal.returns-clause-known
returns-clause-known c = event_line_known c.args.count c.args.config.now c.args.line.now c.event.result
    (c.event.ensures ∙ event_line_words c.args.count c.args.config.now c.args.line.now _ c.if-line-gt-LONGEST_LINE.false c.requires)
