use Rattle.refinement.proofs.Entered.{adds_gains, adds_lead}
use Rattle.refinement.proofs.laws.gains_law.Goals as goal

pub returns-clause-gains : goal.returns-clause-gains
returns-clause-gains c = λ words card_words card kept old new inside adds. adds_gains words kept card_words card old new inside adds

pub returns-clause-leads : goal.returns-clause-leads
returns-clause-leads c =
    λ words card_words card kept old new region x inside adds was. adds_lead words kept card_words card old new inside adds region x was
