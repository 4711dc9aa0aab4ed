use Rattle.std.proofs.Common.{◌∙◌, ap, arith, length}
use Rattle.regions.specs.Table.{fields_at, pointers_at}
use Rattle.step_core.specs.Stands.{CoreState}
use Rattle.step_core.proofs.Cores.Bare.{root_bare, rooted_bare}
use Rattle.step_core.proofs.Cores.Keeping.{core_of}
use Rattle.step_core.proofs.Mutating.Fields.{fields_exact}
use Rattle.step_core.proofs.Mutating.WeakStoring.{rooted_object}
use Rattle.step_core.proofs.heap.Core.slot_count.Goals as goal

pub field_count-requires : goal.field_count-requires
field_count-requires c = rooted_object _ _ c.args.object c.self.view_is c.self.invariant c.requires

pub plain_pointer_count-requires : goal.plain_pointer_count-requires
plain_pointer_count-requires c = record {
  there = rooted_object _ _ c.args.object c.self.view_is c.self.invariant c.requires;
  bare = rooted_bare _ _ c.args.object c.self.view_is c.self.invariant c.requires;
}

pub returns : goal.returns
returns c =
    let bare = root_bare c.args.self.now c.args.object (core_of _ _ c.self.view_is c.self.invariant) c.requires in
    let count = fields_exact c.args.self.now.table c.args.object bare in
    let fields = c.field_count.ensures ∙ ap (λ (d : CoreState). length (fields_at d.table c.args.object)) c.self.view_is in
    let pointers = c.plain_pointer_count.ensures ∙ ap (λ (d : CoreState). length (pointers_at d.table c.args.object)) c.self.view_is in
    omega (arith, count, fields, pointers)

pub overflow_sub-result : goal.overflow_sub-result
overflow_sub-result c =
    let bare = root_bare c.args.self.now c.args.object (core_of _ _ c.self.view_is c.self.invariant) c.requires in
    let count = fields_exact c.args.self.now.table c.args.object bare in
    let fields = c.field_count.ensures ∙ ap (λ (d : CoreState). length (fields_at d.table c.args.object)) c.self.view_is in
    let pointers = c.plain_pointer_count.ensures ∙ ap (λ (d : CoreState). length (pointers_at d.table c.args.object)) c.self.view_is in
    omega (arith, count, fields, pointers)
