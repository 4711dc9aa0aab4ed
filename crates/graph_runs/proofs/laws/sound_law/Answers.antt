use Rattle.graph_runs.proofs.Sound.{first_sound, happens_sound}
use Rattle.graph_runs.proofs.SinceLaws.{holds_sound}
use Rattle.graph_runs.proofs.laws.sound_law.Goals as goal

pub returns-clause-begins : goal.returns-clause-begins
returns-clause-begins c = first_sound

pub returns-clause-step : goal.returns-clause-step
returns-clause-step c = happens_sound

pub returns-clause-below : goal.returns-clause-below
returns-clause-below c = holds_sound
