use Rattle.refinement.proofs.Remembered.{remembers_cleared_fields, inside_cleared_fields, clears_after}
use Rattle.refinement.proofs.laws.cleared_law.Goals as goal

pub returns-clause-remembers : goal.returns-clause-remembers
returns-clause-remembers c = λ words card_words kept kept' dirty covered clears remembers.
    remembers_cleared_fields words card_words kept kept' dirty covered clears remembers

pub returns-clause-inside : goal.returns-clause-inside
returns-clause-inside c = λ words regions kept kept' clears inside. inside_cleared_fields words regions kept kept' clears inside

pub returns-clause-over : goal.returns-clause-over
returns-clause-over c = λ h m kept' same. clears_after h m kept' same
