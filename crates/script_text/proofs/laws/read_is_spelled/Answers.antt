use Rattle.script_text.proofs.BothWays.Texts.{text_read}
use Rattle.script_text.proofs.laws.read_is_spelled.Goals as goal

pub returns : goal.returns
returns c = text_read
