use Rattle.heap_model.proofs.Evacuated.{root_reached, field_reached, field_names}
use Rattle.heap_model.proofs.evacuation.named_law.Goals as goal

pub returns-clause-root : goal.returns-clause-root
returns-clause-root c = λ set h now forward v j c e inside. root_reached set h forward now v j c e inside

pub returns-clause-field : goal.returns-clause-field
returns-clause-field c = λ set h now forward v b i c y at out e inside. field_reached set h forward now v b i c y at out e inside

pub returns-clause-target : goal.returns-clause-target
returns-clause-target c = λ set h now forward v closed b i c y at out e. field_names set h forward now v closed b i c y at out e
