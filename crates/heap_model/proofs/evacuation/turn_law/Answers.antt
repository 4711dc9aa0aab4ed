use Rattle.heap_model.proofs.Evacuated.{start, copied, root_updated, field_updated}
use Rattle.heap_model.proofs.evacuation.turn_law.Goals as goal

pub returns-clause-start : goal.returns-clause-start
returns-clause-start c = λ set h. start set h

pub returns-clause-copied : goal.returns-clause-copied
returns-clause-copied c = λ set h now now' forward forward' v a b x r step. copied set h forward now v forward' now' a b x step r

pub returns-clause-root : goal.returns-clause-root
returns-clause-root c = λ set h now now' forward v j w w' at moved step. root_updated set h forward now v now' j w w' at moved step

pub returns-clause-field : goal.returns-clause-field
returns-clause-field c = λ set h now now' forward v b i c d y y' out e inside f step values shape slots words.
    field_updated set h forward now v now' b i c d y y' out e inside f step values shape slots words
