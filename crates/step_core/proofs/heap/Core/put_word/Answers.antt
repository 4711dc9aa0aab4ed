use Rattle.std.proofs.Common.{◌∙◌, ap, arith, length}
use Rattle.regions.specs.Table.{pointers_at}
use Rattle.step_core.specs.Stands.{CoreState}
use Rattle.step_core.proofs.Cores.Bare.{fields_bare}
use Rattle.step_core.proofs.Cores.Keeping.{object_led}
use Rattle.step_core.proofs.Mutating.Acting.{put_past, refused_does}
use Rattle.step_core.proofs.Mutating.Near.{put_does}
use Rattle.step_core.proofs.heap.Core.put_word.Goals as goal

pub plain_pointer_count-requires : goal.plain_pointer_count-requires
plain_pointer_count-requires c = let l = c.requires.names.leads in record {
  there = object_led _ _ _ _ c.self.view_is c.self.invariant l;
  bare = fields_bare _ _ _ _ c.self.view_is c.self.invariant l;
}

pub returns-then-field-plain_pointer_count : goal.returns-then-field-plain_pointer_count
returns-then-field-plain_pointer_count c = let l = c.requires.names.leads in
    refused_does _ _ _ _ (λ g s. put_past g _ s c.args.mutator c.args.object _ l c.args.field c.args.value
    (let count = c.plain_pointer_count.ensures ∙ ap (λ (d : CoreState). length (pointers_at d.table c.args.at)) c.self.view_is in
    omega arith))

pub returns : goal.returns
returns c = put_does _ _ c.args.mutator c.args.object c.args.at c.args.field c.args.value _ c.requires.names
    (let count = c.plain_pointer_count.ensures ∙ ap (λ (d : CoreState). length (pointers_at d.table c.args.at)) c.self.view_is in
    omega arith)
    c.requires.target c.store.ensures
