use Rattle.script_text.proofs.BothWays.RecordTexts.{record_again}
use Rattle.script_text.proofs.laws.spelled_record_is_read.Goals as goal

pub returns : goal.returns
returns c = record_again
