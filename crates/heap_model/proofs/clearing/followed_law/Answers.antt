use Rattle.heap_model.proofs.Shown.{followed, held_shown}
use Rattle.heap_model.proofs.clearing.followed_law.Goals as goal

pub returns-clause-pointers : goal.returns-clause-pointers
returns-clause-pointers c = λ g h shows. followed g h shows

pub returns-clause-held : goal.returns-clause-held
returns-clause-held c = λ g h shows a k b p. let t = held_shown g h shows a k b p in record { object = t.object; at = t.at }
