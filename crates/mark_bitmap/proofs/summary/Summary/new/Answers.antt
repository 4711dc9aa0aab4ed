use Rattle.mark_bitmap.proofs.Summaries.{levels_new}
use Rattle.mark_bitmap.proofs.summary.Summary.new.Goals as goal

pub invariant_of-result : goal.invariant_of-result
invariant_of-result c =
    levels_new _ _ _ _ _ _ c.in_ok-new.ensures c.in_ok-new-2.ensures c.in_ok-new-3.ensures c.div_ceil-groups.ensures c.div_ceil.ensures
