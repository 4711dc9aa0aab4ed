use Rattle.refinement.proofs.Remembered.{keeps_same, keeps_gone, keeps_values}
use Rattle.refinement.proofs.laws.fields_law.Goals as goal

pub returns-clause-same : goal.returns-clause-same
returns-clause-same c = λ kept kept' same. keeps_same kept kept' same

pub returns-clause-gone : goal.returns-clause-gone
returns-clause-gone c = λ kept kept' gone f. keeps_gone kept kept' gone f

pub returns-clause-values : goal.returns-clause-values
returns-clause-values c = λ kept kept' at before after was is same others. keeps_values kept kept' at before after was is same others
