use Rattle.std.proofs.Common.{◌∙◌, ap, arith, length}
use Rattle.regions.specs.Table.{fields_at}
use Rattle.step_core.specs.Stands.{CoreState}
use Rattle.step_core.proofs.Cores.Filling.{names_at}
use Rattle.step_core.proofs.Cores.Keeping.{object_led}
use Rattle.step_core.proofs.Cores.Bare.{led_bare}
use Rattle.step_core.proofs.Mutating.Fields.{fields_exact}
use Rattle.step_core.proofs.heap.Core.write_row.Goals as goal

pub field_count-fields-requires : goal.field_count-fields-requires
field_count-fields-requires c =
    object_led _ _ _ _ c.self.view_is c.self.invariant
    (names_at _ c.args.mutator c.args.object c.args.at c.law_remembers.ensures.core c.requires.mutator c.requires.object
    c.requires.has.held).leads

pub write_at-requires-clause-fields : goal.write_at-requires-clause-fields
write_at-requires-clause-fields c =
    let kept = c.loop-number.invariant in
    let core = c.law_remembers.ensures.core in
    let names = names_at _ c.args.mutator c.args.object c.args.at core c.requires.mutator c.requires.object c.requires.has.held in
    let count = fields_exact c.args.self.now.table c.args.at (led_bare _ _ _ core names.leads) in
    let is = c.field_count-fields.ensures ∙ ap (λ (d : CoreState). length (fields_at d.table c.args.at)) c.self.view_is in
    omega (arith, kept.pointers, kept.weaks, count, is)
