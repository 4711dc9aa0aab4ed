use Rattle.script_text.proofs.BothWays.Actions.{action_again, action_is}
use Rattle.script_text.proofs.laws.action_is_read.Goals as goal

pub returns : goal.returns
returns c = record { again = action_again; only = action_is }
