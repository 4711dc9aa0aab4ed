use Rattle.g1heap_c.proofs.Codes.{have_codes}
use Rattle.g1heap_c.proofs.laws.code_law.Goals as goal

pub returns : goal.returns
returns k s c calls h = have_codes s c calls h
