use Rattle.script_text.proofs.BothWays.RecordTexts.{record_read}
use Rattle.script_text.proofs.laws.read_record_is_spelled.Goals as goal

pub returns : goal.returns
returns c = record_read
