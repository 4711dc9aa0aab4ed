use Rattle.mark_bitmap.proofs.Summaries.{levels_clear}
use Rattle.mark_bitmap.proofs.summary.Summary.clear.Goals as goal

pub invariant_of-self : goal.invariant_of-self
invariant_of-self c =
    let i = c.self.inside in
    rw (c.clear.ensures, c.clear-2.ensures, c.clear-3.ensures) (levels_clear i.members i.groups i.blocks c.self.invariant)
