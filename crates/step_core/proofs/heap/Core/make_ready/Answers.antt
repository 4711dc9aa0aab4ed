use Rattle.std.proofs.Common.{sym}
use Rattle.cards.specs.Cards.{ListsDirtyOnce}
use Rattle.step_core.specs.Stands.{ShowsGraph, KeepsFrom, IsCore}
use Rattle.step_core.proofs.Cycles.Cycling.{to_fields}
use Rattle.step_core.proofs.Pauses.Ready.{closed_shows, closed_keeps, closed_kept, is_ready}
use Rattle.step_core.proofs.heap.Core.make_ready.Goals as goal

pub invariant_of-self : goal.invariant_of-self
invariant_of-self c = let b = c.close_all.ensures in closed_kept _ _ _ c.self.invariant b.closed b.stand b.above c.flush_all.ensures

pub returns-clause-shows : goal.returns-clause-shows
returns-clause-shows c = λ g s. c.refine.ensures.shows g (closed_shows _ _ _ g (to_fields _ _ c.self.view_is (λ d. ShowsGraph g d) s))

pub returns-clause-keeps : goal.returns-clause-keeps
returns-clause-keeps c = λ s f. c.refine.ensures.keeps s (closed_keeps _ _ _ s (to_fields _ _ c.self.view_is (λ d. KeepsFrom s d) f))

pub returns-clause-ready : goal.returns-clause-ready
returns-clause-ready c =
    is_ready _ _ _ _ _ _ _ c.self.view_is c.close_all.ensures.closed c.flush_all.ensures c.queued-queued.ensures c.refine.ensures.refined
    (to_fields _ _ (sym c.self-2.view_is) (λ d. ListsDirtyOnce d.cards) c.law.ensures.listed) c.self.invariant
    (to_fields _ _ (sym c.self-2.view_is) (λ d. IsCore d) c.self-2.invariant)
