use Rattle.g1heap_c.proofs.Told.{one_answer}
use Rattle.g1heap_c.proofs.laws.answer_law.Goals as goal

pub returns : goal.returns
returns k c es call last answer other h i = one_answer c es answer other last call h i
