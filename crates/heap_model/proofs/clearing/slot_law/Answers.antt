use Rattle.heap_model.proofs.Waiting.{weak_slot_read, held_slot_read}
use Rattle.heap_model.proofs.clearing.slot_law.Goals as goal

pub returns-clause-weak : goal.returns-clause-weak
returns-clause-weak c = λ g h s a i x w at e. weak_slot_read g h s a i x w at e

pub returns-clause-held : goal.returns-clause-held
returns-clause-held c = λ g h s a i x w at e. held_slot_read g h s a i x w at e
