use Rattle.mark_bitmap.proofs.KeptLaws.{object_moved}
use Rattle.mark_bitmap.proofs.kept.moved_law.Goals as goal

pub returns : goal.returns
returns c = λ t t' tops tops' previous previous' roots from to object touched was room is gone others alone above below marks.
    object_moved t t' tops tops' previous previous' roots from to object touched was room is gone others alone above below marks
