use Rattle.heap_model.proofs.Touched.{saved_invariant}
use Rattle.heap_model.proofs.weak.save_law.Goals as goal

pub returns : goal.returns
returns c = λ s g h m m' w v shows i u scanned undone shown saved. saved_invariant s g h m shows i u scanned undone m' w v shown saved
