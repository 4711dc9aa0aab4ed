use Rattle.bit_sets.proofs.Bounds.{none_left}
use Rattle.bit_sets.proofs.bounded.BoundedBits.clear.Goals as goal

pub returns : goal.returns
returns c = rw (← c.self.view_is) (none_left _ _ _ _ c.self.invariant c.clear_range.ensures.len c.clear_range.ensures.flags)
