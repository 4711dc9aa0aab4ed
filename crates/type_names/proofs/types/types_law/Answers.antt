use Rattle.type_names.proofs.Distinct.{first_is_named}
use Rattle.type_names.proofs.types.types_law.Goals as goal

pub returns : goal.returns
returns c = λ text word first e. first_is_named text word first e
