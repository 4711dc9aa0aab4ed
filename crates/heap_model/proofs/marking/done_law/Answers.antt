use Rattle.heap_model.proofs.Finish.{exact}
use Rattle.heap_model.proofs.Cleared.{cleared_all, cleared_only, cleared_quiet}
use Rattle.heap_model.proofs.marking.done_law.Goals as goal

pub returns-clause-exact : goal.returns-clause-exact
returns-clause-exact c = λ s g h m shows i done. exact s g h m i done

pub returns-clause-all : goal.returns-clause-all
returns-clause-all c = λ s h m i done n r. cleared_all s h m i done n r

pub returns-clause-only : goal.returns-clause-only
returns-clause-only c = λ s h m i done a x e. cleared_only s h m i done a x e

pub returns-clause-quiet : goal.returns-clause-quiet
returns-clause-quiet c = λ g h m shows i done a x e. cleared_quiet g h m i done shows a x e
