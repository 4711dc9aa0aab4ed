use Rattle.remembered_sets.proofs.Laws.{cleared_covers, cleared_other, own_gone, others_left}
use Rattle.remembered_sets.proofs.sets.clear_law.Goals as goal

pub returns-clause-nothing : goal.returns-clause-nothing
returns-clause-nothing c = λ s region card known. cleared_covers s region card known

pub returns-clause-others : goal.returns-clause-others
returns-clause-others c = λ s region other differs. cleared_other s region other differs

pub returns-clause-own : goal.returns-clause-own
returns-clause-own c = λ s region card own. own_gone s.cards_per_region region s.entered card own

pub returns-clause-other_cards : goal.returns-clause-other_cards
returns-clause-other_cards c = λ s region card differs. others_left s.cards_per_region region s.entered card differs
