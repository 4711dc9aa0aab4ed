use Rattle.std.proofs.Common.{◌∙◌}
use Rattle.bit_sets.proofs.Counts.{count_within}
use Rattle.bit_sets.proofs.bounded.BoundedBits.count.Goals as goal

pub returns : goal.returns
returns c = rw (← c.self.view_is) (c.count_between.ensures ∙ count_within _ _ _ c.self.invariant)
