use Rattle.std.proofs.Common.{◌∙◌, ap, arith, length, sym, slice_get}
use Rattle.regions.specs.Table.{pointers_at}
use Rattle.step_core.specs.Stands.{CoreState}
use Rattle.step_core.proofs.Mutating.Acting.{get_past, get_done, refused_does}
use Rattle.step_core.proofs.Mutating.Done.{got}
use Rattle.step_core.proofs.Cores.Bare.{fields_bare}
use Rattle.step_core.proofs.Cores.Keeping.{object_led, field_of, field_can_be_stored}
use Rattle.step_core.proofs.heap.Core.get.Goals as goal

pub plain_pointer_count-requires : goal.plain_pointer_count-requires
plain_pointer_count-requires c = let l = c.in-Some.ensures.leads in record {
  there = object_led _ _ _ _ c.self.view_is c.self.invariant l;
  bare = fields_bare _ _ _ _ c.self.view_is c.self.invariant l;
}

pub returns-then-field-plain_pointer_count : goal.returns-then-field-plain_pointer_count
returns-then-field-plain_pointer_count c = let l = c.in-Some.ensures.leads in
    refused_does _ _ _ _ (λ g s. get_past g _ s c.args.mutator c.args.object _ l c.args.to c.args.field
    (let count = c.plain_pointer_count.ensures ∙ ap (λ (d : CoreState). length (pointers_at d.table c.in-Some.at)) c.self.view_is in
    omega arith))

pub take_named-name-requires-clause-word : goal.take_named-name-requires-clause-word
take_named-name-requires-clause-word c =
    let l = c.in-Some.ensures.leads in
    field_of _ _ _ _ _ _ c.self.view_is c.self.invariant l c.get_ptr-value.ensures

pub take_named-name-requires-clause-held : goal.take_named-name-requires-clause-held
take_named-name-requires-clause-held c =
    let l = c.in-Some.ensures.leads in
    field_can_be_stored _ _ _ _ _ _ c.self.view_is c.self.invariant l c.in-Some.ensures.rooted c.get_ptr-value.ensures

pub returns : goal.returns
returns c =
    let l = c.in-Some.ensures.leads in
    let there = ap (λ (d : CoreState). slice_get (pointers_at d.table c.in-Some.at) c.args.field) (sym c.self.view_is)
    ∙ c.get_ptr-value.ensures in
    let taken = c.take_named-name.ensures in
    record {
      acts = λ g s. get_done g _ s c.args.mutator c.args.object _ l c.args.to c.args.field c.get_ptr-value.result c.take_named-name.result _
          there taken.name taken.shows;
      keeps = taken.sets.keeps;
      after = got _ _ c.args.mutator c.args.to c.args.object c.args.field c.in-Some.at c.get_ptr-value.result
          (sym c.register.ensures.value ∙ c.in-Some.is) there taken.sets.after;
      leaves = taken.sets.leaves;
    }
