use Rattle.heap_model.proofs.Changed.{root_read, pointer_read, weak_read, held_read, word_read}
use Rattle.heap_model.proofs.showing.read_law.Goals as goal

pub returns-clause-root : goal.returns-clause-root
returns-clause-root c = λ g h shows place w e. root_read g h h shows place w e

pub returns-clause-pointer : goal.returns-clause-pointer
returns-clause-pointer c = λ g h shows a i x w at e. pointer_read g h h shows a i x w at e

pub returns-clause-weak : goal.returns-clause-weak
returns-clause-weak c = λ g h shows a i x w at e. weak_read g h h shows a i x w at e

pub returns-clause-held : goal.returns-clause-held
returns-clause-held c = λ g h shows a i x w at e. held_read g h h shows a i x w at e

pub returns-clause-values : goal.returns-clause-values
returns-clause-values c = λ g h shows a x at. word_read g h h shows a x at
