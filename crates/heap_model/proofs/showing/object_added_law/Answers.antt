use Rattle.heap_model.proofs.Changed.{object_added_shows}
use Rattle.heap_model.proofs.showing.object_added_law.Goals as goal

pub returns : goal.returns
returns c = λ g h h' shows a x o place step name pointers weaks held values. object_added_shows g h h' shows a x o place
    step name pointers weaks held values
