use Rattle.remembered_sets.proofs.Laws.{covers-added, covers_grows, covers_only, covers_only_card}
use Rattle.remembered_sets.proofs.Laws.{added_other, leads-added, leads_grow, entered_only}
use Rattle.remembered_sets.proofs.sets.add_law.Goals as goal

pub returns-clause-covered : goal.returns-clause-covered
returns-clause-covered c = λ s region card shaped known h. covers-added s region card shaped known h

pub returns-clause-grows : goal.returns-clause-grows
returns-clause-grows c = λ s region card other x known was. covers_grows s region card other x known was

pub returns-clause-only : goal.returns-clause-only
returns-clause-only c = λ s region card x known now. covers_only s region card x known now

pub returns-clause-only_the_card : goal.returns-clause-only_the_card
returns-clause-only_the_card c = λ s region card x known few now. covers_only_card s region card x known few now

pub returns-clause-others : goal.returns-clause-others
returns-clause-others c = λ s region card other differs. added_other s region card other differs

pub returns-clause-leads : goal.returns-clause-leads
returns-clause-leads c = λ s region card shaped known h. leads-added s region card shaped known h

pub returns-clause-leads_still : goal.returns-clause-leads_still
returns-clause-leads_still c = λ s region card other x known was. leads_grow s region card other x known was

pub returns-clause-entered_only : goal.returns-clause-entered_only
returns-clause-entered_only c = λ s region card x now. entered_only s.entered card x now
