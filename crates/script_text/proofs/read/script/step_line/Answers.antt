use Rattle.std.proofs.Common.{◌∙◌}
use Rattle.script_text.proofs.Reading.Twelve.{step_line_is}
use Rattle.script_text.proofs.read.script.step_line.Goals as goal

pub returns-clause-exact : goal.returns-clause-exact
returns-clause-exact c = c.step.ensures.exact ∙ step_line_is c.args.config.now c.args.line.now _ c.if-line-gt-LONGEST_LINE.false c.requires
