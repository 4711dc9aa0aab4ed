use Rattle.heap_model.proofs.Redirected.{moved_relocates}
use Rattle.heap_model.proofs.redirection.redirection_law.Goals as goal

pub returns : goal.returns
returns c = λ h now h' from to object r m. moved_relocates from to h now h' object r m
