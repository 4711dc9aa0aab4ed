use Rattle.heap_model.proofs.Cleared.{shows_cleared, clears_once, clears_exists, reach_on, reach_back, cleared_by}
use Rattle.heap_model.proofs.weak.clear_law.Goals as goal

pub returns-clause-shows : goal.returns-clause-shows
returns-clause-shows c = λ s g g' h m shows i done clears. shows_cleared s g g' h m i done shows clears

pub returns-clause-once : goal.returns-clause-once
returns-clause-once c = λ s g a b p q. clears_once s g a b p q

pub returns-clause-exists : goal.returns-clause-exists
returns-clause-exists c = λ s g n count. clears_exists s n count g

pub returns-clause-reachable : goal.returns-clause-reachable
returns-clause-reachable c = λ s g g' clears known n. (reach_on s g g' clears known n, reach_back s g g' clears n)

pub returns-clause-after : goal.returns-clause-after
returns-clause-after c = λ s g g' clears n r. reach_back s g g' clears n r

pub returns-clause-computed : goal.returns-clause-computed
returns-clause-computed c = λ s g flag reached. cleared_by s flag reached g
