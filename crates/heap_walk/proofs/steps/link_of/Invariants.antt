use Rattle.heap_walk.specs.Searching.{LeadsNowhere}
use Rattle.heap_walk.proofs.steps.link_of.Given as goal

abbrev pub invariant-loop-at : goal.invariant-loop-at
invariant-loop-at l = LeadsNowhere l.core l.steps l.fn.from l.at l.object
