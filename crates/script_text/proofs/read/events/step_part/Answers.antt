use Rattle.std.proofs.Common.{arith}
use Rattle.script_text.proofs.Reading.Parting.{words_before, words_all}
use Rattle.script_text.proofs.read.events.step_part.Goals as goal

pub returns-then-words-end-gt1 : goal.returns-then-words-end-gt1
returns-then-words-end-gt1 c = words_before c.args.words.now c.equals_at-end.result c.equals_at-end.ensures.exact (omega arith)

pub returns-else-words-end-gt1 : goal.returns-else-words-end-gt1
returns-else-words-end-gt1 c = words_all c.args.words.now c.equals_at-end.result c.equals_at-end.ensures.exact (omega arith)
