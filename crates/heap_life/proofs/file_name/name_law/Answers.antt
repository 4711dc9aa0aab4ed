use Rattle.heap_life.proofs.FileNames.{all_safe, told_apart}
use Rattle.heap_life.proofs.file_name.name_law.Goals as goal

pub returns-clause-safe : goal.returns-clause-safe
returns-clause-safe c = λ name bytes. all_safe name bytes

pub returns-clause-apart : goal.returns-clause-apart
returns-clause-apart c = λ a b bytes others same. told_apart a b bytes others same
