use Rattle.heap_model.proofs.Shown.{will_show}
use Rattle.heap_model.proofs.Waiting.{shows_cleared_heap, nothing_left}
use Rattle.heap_model.proofs.clearing.left_law.Goals as goal

pub returns-clause-will : goal.returns-clause-will
returns-clause-will c = λ g h s. will_show g h s

pub returns-clause-nothing : goal.returns-clause-nothing
returns-clause-nothing c = λ g h s. nothing_left g h s

pub returns-clause-shows : goal.returns-clause-shows
returns-clause-shows c = λ g h s done. shows_cleared_heap g h s done
