use Rattle.step_core.specs.Stands.{ShowsGraph, KeepsFrom}
use Rattle.step_core.proofs.Cycles.Cycling.{to_fields}
use Rattle.step_core.proofs.Cycles.Settling.{part_shows, part_keeps, part_kept}
use Rattle.step_core.proofs.heap.Core.clear.Goals as goal

pub invariant_of-self : goal.invariant_of-self
invariant_of-self c = part_kept _ c.self.invariant _ c.in-Some.is _ _ c.clear-progress.ensures.cleared

pub returns-clause-shows : goal.returns-clause-shows
returns-clause-shows c = λ g s. part_shows _ c.self.invariant _ c.in-Some.is _ _ c.clear-progress.ensures.cleared g
    (to_fields _ _ c.self.view_is (λ d. ShowsGraph g d) s)

pub returns-clause-keeps : goal.returns-clause-keeps
returns-clause-keeps c = λ s f. part_keeps _ c.self.invariant _ c.in-Some.is _ _ c.clear-progress.ensures.cleared s
    (to_fields _ _ c.self.view_is (λ d. KeepsFrom s d) f)
