use Rattle.mark_bitmap.proofs.Held.{fewer_fingers}
use Rattle.mark_bitmap.proofs.grey.grey_law.Goals as goal

pub returns-clause-fewer : goal.returns-clause-fewer
returns-clause-fewer c = fewer_fingers
