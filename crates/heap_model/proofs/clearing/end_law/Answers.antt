use Rattle.heap_model.proofs.Cleared.{will_show_ended}
use Rattle.heap_model.proofs.clearing.end_law.Goals as goal

pub returns : goal.returns
returns c = λ s g g' h m shows i done clears. will_show_ended s g g' h m i done shows clears
