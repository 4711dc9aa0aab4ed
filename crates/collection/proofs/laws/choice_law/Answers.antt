use Rattle.collection.proofs.Choice.{choice}
use Rattle.collection.proofs.laws.choice_law.Goals as goal

pub returns : goal.returns
returns c = choice
