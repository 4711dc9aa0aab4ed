use Rattle.script_text.proofs.BothWays.Texts.{text_again}
use Rattle.script_text.proofs.laws.spelled_is_read.Goals as goal

pub returns : goal.returns
returns c = text_again
