use Rattle.std.proofs.Common.{◌+◌, ◌-◌, drop, length, arith}
use Rattle.std.proofs.lemmas.List.{take_all, length-drop}
use Rattle.script_text.proofs.Reading.Parting.{answer_behind, no_answer}
use Rattle.script_text.proofs.read.events.answer.Goals as goal

pub returns-then-words-end-gt1 : goal.returns-then-words-end-gt1
returns-then-words-end-gt1 c =
    let end = c.equals_at-end.result in
    let words = c.args.words.now in
    answer_behind words _ end c.reply.result c.equals_at-end.ensures.exact (omega arith)
    (take_all (length words - (end + 1)) (drop (end + 1) words) (omega (arith, length-drop (end + 1) words))) c.reply.ensures

pub returns-else-words-end-gt1 : goal.returns-else-words-end-gt1
returns-else-words-end-gt1 c = no_answer c.args.words.now c.equals_at-end.result c.equals_at-end.ensures.exact (omega arith)
