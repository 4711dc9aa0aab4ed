use Rattle.mark_bitmap.proofs.Ranges.{below_in, lies_below, below_set_in, below_set_other}
use Rattle.mark_bitmap.proofs.tams.below_law.Goals as goal

pub returns-clause-region : goal.returns-clause-region
returns-clause-region c = λ words tops k a h. below_in words tops k a h

pub returns-clause-only : goal.returns-clause-only
returns-clause-only c = λ words tops a z h. lies_below words tops a z h

pub returns-clause-set : goal.returns-clause-set
returns-clause-set c = λ words tops k top a inside h. below_set_in words tops k top a inside h

pub returns-clause-others : goal.returns-clause-others
returns-clause-others c = λ words tops k top a z h. below_set_other words tops k top a z h
