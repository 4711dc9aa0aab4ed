use Rattle.std.proofs.Common.{◌∙◌, ap, arith, length, rules}
use Rattle.regions.specs.Table.{weaks_at}
use Rattle.step_core.specs.Stands.{CoreState}
use Rattle.step_core.proofs.Mutating.Acting.{put_weak_past, put_weak_done, refused_does}
use Rattle.step_core.proofs.Cores.Keeping.{object_led}
use Rattle.step_core.proofs.heap.Core.put_weak.Goals as goal

pub weak_count-requires : goal.weak_count-requires
weak_count-requires c = let l = c.in-Some.ensures.leads in object_led _ _ _ _ c.self.view_is c.self.invariant l

pub returns-then-slot-weak_count : goal.returns-then-slot-weak_count
returns-then-slot-weak_count c = let l = c.in-Some.ensures.leads in
    refused_does _ _ _ _ (λ g s. put_weak_past g _ s c.args.mutator c.args.object _ l c.args.slot c.args.value
    (let count = c.weak_count.ensures ∙ ap (λ (d : CoreState). length (weaks_at d.table c.in-Some.at)) c.self.view_is in omega arith))

pub returns : goal.returns
returns c = let l = c.in-Some.ensures.leads in record {
  acts = λ g s. put_weak_done g _ s c.args.mutator c.args.object _ l c.args.slot c.args.value _ _
      (let count = c.weak_count.ensures ∙ ap (λ (d : CoreState). length (weaks_at d.table c.in-Some.at)) c.self.view_is in omega arith)
      (c.stored-target.ensures.shows g s) c.store_weak.ensures.shows;
  keeps = search rules;
  after = search rules;
  leaves = search rules;
}
