use Rattle.heap_model.proofs.Touched.{touched_invariant}
use Rattle.heap_model.proofs.weak.touch_law.Goals as goal

pub returns : goal.returns
returns c = λ s g h h' m m' place w v shows i u scanned undone shown step saved.
    touched_invariant s g h m shows i u scanned undone h' m' place w v shown step saved
