use Rattle.std.proofs.Common.{◌∙◌, ap, arith, length}
use Rattle.regions.specs.Table.{values_at}
use Rattle.step_core.specs.Stands.{CoreState}
use Rattle.step_core.proofs.Mutating.Acting.{refused_does, write_past}
use Rattle.step_core.proofs.Cores.Keeping.{object_led, write_does, write_kept}
use Rattle.step_core.proofs.heap.Core.write_in.Goals as goal

pub value_count-requires : goal.value_count-requires
value_count-requires c = let l = c.requires.leads in object_led _ _ _ _ c.self.view_is c.self.invariant l

pub returns-then-field-value_count : goal.returns-then-field-value_count
returns-then-field-value_count c = let l = c.requires.leads in
    refused_does _ _ _ _ (λ g s. write_past g _ s c.args.mutator c.args.object _ l c.args.field c.args.value
    (let count = c.value_count.ensures ∙ ap (λ (d : CoreState). length (values_at d.table c.args.at)) c.self.view_is in omega arith))

pub invariant_of-self : goal.invariant_of-self
invariant_of-self c = write_kept _ _ c.self.view_is c.self.invariant c.args.mutator c.args.object _ c.args.field c.args.value _
    c.requires (omega (arith, c.value_count.ensures)) c.set_value.ensures

pub returns : goal.returns
returns c = write_does _ _ c.self.view_is c.self.invariant c.args.mutator c.args.object _ c.args.field c.args.value _ c.requires
    (omega (arith, c.value_count.ensures)) c.set_value.ensures
