use Rattle.script_text.proofs.Reading.StepsFit.{step_is_read}
use Rattle.script_text.proofs.laws.fitting_words_are_read.Goals as goal

pub returns : goal.returns
returns c = step_is_read
