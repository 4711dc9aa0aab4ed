use Rattle.heap_model.proofs.Unreached.{root_sound, object_sound, changed_sound, cleared_sound}
use Rattle.heap_model.proofs.weak.sound_law.Goals as goal

pub returns-clause-root : goal.returns-clause-root
returns-clause-root c = λ g place v k below. root_sound g place v k below

pub returns-clause-object : goal.returns-clause-object
returns-clause-object c = λ g o place k nil. object_sound g o place k nil

pub returns-clause-changed : goal.returns-clause-changed
returns-clause-changed c = λ g n o p k e below. changed_sound g n o p k e below

pub returns-clause-cleared : goal.returns-clause-cleared
returns-clause-cleared c = λ s g g' clears k. cleared_sound s g g' clears k
