use Rattle.std.proofs.Common.{◌∙◌, ap, length, rules}
use Rattle.regions.specs.Table.{weaks_at}
use Rattle.step_core.specs.Stands.{CoreState}
use Rattle.step_core.proofs.Mutating.Acting.{weaks_done}
use Rattle.step_core.proofs.Cores.Keeping.{object_led}
use Rattle.step_core.proofs.heap.Core.weaks.Goals as goal

pub weak_count-requires : goal.weak_count-requires
weak_count-requires c = let l = c.in-Some.ensures.leads in object_led _ _ _ _ c.self.view_is c.self.invariant l

pub returns : goal.returns
returns c = let l = c.in-Some.ensures.leads in record {
  acts = λ g s. weaks_done g _ s c.args.mutator c.args.object _ l _
      (c.from.ensures ∙ c.weak_count.ensures ∙ ap (λ (d : CoreState). length (weaks_at d.table c.in-Some.at)) c.self.view_is);
  keeps = search rules;
  after = search rules;
  leaves = search rules;
}
