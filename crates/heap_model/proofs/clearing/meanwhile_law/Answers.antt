use Rattle.heap_model.proofs.Waiting.{will_root_set, will_object_set, will_object_added, will_same, still_cleared}
use Rattle.heap_model.proofs.clearing.meanwhile_law.Goals as goal

pub returns-clause-root : goal.returns-clause-root
returns-clause-root c = λ g h h' s place w v shown step. will_root_set g h h' s place w v shown step

pub returns-clause-object : goal.returns-clause-object
returns-clause-object c = λ g h h' s d x y o p step named pointers weaks held keyed values. will_object_set g h h' s d x y o p step named
    pointers weaks held keyed values

pub returns-clause-added : goal.returns-clause-added
returns-clause-added c = λ g h h' s a x o place step away name pointers weaks held values. will_object_added g h h' s a x o place step away
    name pointers weaks held values

pub returns-clause-same : goal.returns-clause-same
returns-clause-same c = λ g h h' s same. will_same g h h' s same

pub returns-clause-left : goal.returns-clause-left
returns-clause-left c = λ h h' place was on done. still_cleared h h' place was on done
