use Rattle.std.proofs.Common.{◌∙◌, ap}
use Rattle.step_core.specs.Stands.{CoreState}
use Rattle.step_core.proofs.Mutating.Near.{near_noted}
use Rattle.step_core.proofs.Mutating.Stored.{idle_kept, idle_stores}
use Rattle.step_core.proofs.heap.Core.store_near.Goals as goal

pub invariant_of-self : goal.invariant_of-self
invariant_of-self c = idle_kept _ _ c.self.view_is c.self.invariant c.args.object c.args.field c.args.target c.requires.can
    (near_noted c.args.self.now _ c.args.target c.requires.near) _ c.set_ptr.ensures
    (ap (λ (d : CoreState). d.marker.running) c.self.view_is ∙ c.requires.idle)

pub returns : goal.returns
returns c = idle_stores _ _ c.self.view_is c.self.invariant c.args.object c.args.field c.args.target c.requires.can
    (near_noted c.args.self.now _ c.args.target c.requires.near) _ c.set_ptr.ensures
    (ap (λ (d : CoreState). d.marker.running) c.self.view_is ∙ c.requires.idle)
