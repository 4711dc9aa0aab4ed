use Rattle.refinement.proofs.Remembered.{remembers_cleared}
use Rattle.refinement.proofs.laws.release_law.Goals as goal

pub returns-clause-cleared : goal.returns-clause-cleared
returns-clause-cleared c = λ words card_words region kept kept' dirty covered covered' fewer none stays.
    remembers_cleared words card_words region kept kept' dirty covered covered' fewer none stays
