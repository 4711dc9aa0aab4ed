use Rattle.refinement.proofs.Remembered.{remembers_set}
use Rattle.refinement.proofs.laws.store_law.Goals as goal

pub returns : goal.returns
returns c = λ words card_words at index value kept kept' dirty dirty' covered sets noted more.
    remembers_set words card_words at index value kept kept' dirty dirty' covered sets noted more
