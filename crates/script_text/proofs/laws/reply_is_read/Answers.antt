use Rattle.script_text.proofs.BothWays.ReplyLaws.{reply_read, reply_is}
use Rattle.script_text.proofs.laws.reply_is_read.Goals as goal

pub returns : goal.returns
returns c = record { again = reply_read; only = λ ws r e. let is = reply_is ws r e in (is.spelled, is.fits) }
