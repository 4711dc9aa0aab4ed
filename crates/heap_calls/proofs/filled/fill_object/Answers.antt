use Rattle.heap_calls.proofs.Filling.{none_filled}
use Rattle.heap_calls.proofs.filled.fill_object.Goals as goal

pub returns-in_default : goal.returns-in_default
returns-in_default c = none_filled _ _ _ _ _ _ c.register.ensures c.in_default.ensures.nil
