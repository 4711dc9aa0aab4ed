use Rattle.std.proofs.Common.{◌∙◌}
use Rattle.step_core.proofs.Mutating.Reading.{shown_name}
use Rattle.step_core.proofs.heap.Core.name_at.Goals as goal

pub returns-clause-shows : goal.returns-clause-shows
returns-clause-shows c = λ g s. c.name_of.ensures ∙ shown_name _ _ _ (c.register-value.ensures.shows g s)
