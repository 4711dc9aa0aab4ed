use Rattle.graph_runs.specs.State.{first_state}
use Rattle.graph_runs.proofs.Sound.{run_sound, first_sound}
use Rattle.graph_runs.proofs.SinceLaws.{run_since}
use Rattle.graph_runs.proofs.laws.run_is_sound.Goals as goal

pub returns-clause-sound : goal.returns-clause-sound
returns-clause-sound c = λ k es last run. run_sound es (first_state k) last (first_sound k) run

pub returns-clause-since : goal.returns-clause-since
returns-clause-since c = λ k es last run. run_since es (first_state k) last (first_sound k) tt run
