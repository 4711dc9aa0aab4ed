use Rattle.step_core.proofs.Mutating.WeakStoring.{weak_kept, weak_stores}
use Rattle.step_core.proofs.heap.Core.store_weak_noted.Goals as goal

pub invariant_of-self : goal.invariant_of-self
invariant_of-self c = weak_kept _ _ c.self.view_is c.self.invariant c.args.object c.args.slot c.args.target c.requires.rooted
    c.requires.slot c.requires.word c.requires.noted c.law.ensures _ c.set_weak.ensures

pub returns : goal.returns
returns c = weak_stores _ _ c.self.view_is c.self.invariant c.args.object c.args.slot c.args.target c.requires.rooted
    c.requires.slot c.requires.word c.requires.noted c.law.ensures _ c.set_weak.ensures
