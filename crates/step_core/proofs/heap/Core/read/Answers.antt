use Rattle.std.proofs.Common.{◌∙◌, ap, arith, length, rules, sym, slice_get}
use Rattle.regions.specs.Table.{values_at}
use Rattle.step_core.specs.Stands.{CoreState}
use Rattle.step_core.proofs.Mutating.Acting.{read_past, read_done, refused_does}
use Rattle.step_core.proofs.Cores.Keeping.{object_led}
use Rattle.step_core.proofs.heap.Core.read.Goals as goal

pub value_count-requires : goal.value_count-requires
value_count-requires c = let l = c.in-Some.ensures.leads in object_led _ _ _ _ c.self.view_is c.self.invariant l

pub returns-then-field-value_count : goal.returns-then-field-value_count
returns-then-field-value_count c = let l = c.in-Some.ensures.leads in
    refused_does _ _ _ _ (λ g s. read_past g _ s c.args.mutator c.args.object _ l c.args.field
    (let count = c.value_count.ensures ∙ ap (λ (d : CoreState). length (values_at d.table c.in-Some.at)) c.self.view_is in omega arith))

pub returns : goal.returns
returns c = let l = c.in-Some.ensures.leads in record {
  acts = λ g s. read_done g _ s c.args.mutator c.args.object _ l c.args.field c.get_value.result
      (ap (λ (d : CoreState). slice_get (values_at d.table c.in-Some.at) c.args.field) (sym c.self.view_is) ∙ c.get_value.ensures);
  keeps = search rules;
  after = search rules;
  leaves = search rules;
}
