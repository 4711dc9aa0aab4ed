use Rattle.std.proofs.Common.{◌<◌, ◌∙◌, ap, length, subst, sym}
use Rattle.regions.specs.Table.{fields_at, set_value, values_at}
use Rattle.step_core.specs.Stands.{CoreState}
use Rattle.step_core.proofs.Cores.Keeping.{write_does, write_kept}
use Rattle.step_core.proofs.heap.Core.write_known.Goals as goal

pub set_value_behind-requires-clause-fields : goal.set_value_behind-requires-clause-fields
set_value_behind-requires-clause-fields c =
    c.requires.fields ∙ ap (λ (d : CoreState). length (fields_at d.table c.args.at)) (sym c.self.view_is)

pub set_value_behind-requires-clause-field : goal.set_value_behind-requires-clause-field
set_value_behind-requires-clause-field c =
    subst (λ (d : CoreState). c.args.field < length (values_at d.table c.args.at)) (sym c.self.view_is) c.requires.field

pub invariant_of-self : goal.invariant_of-self
invariant_of-self c = write_kept _ _ c.self.view_is c.self.invariant c.args.mutator c.args.object _ c.args.field c.args.value _
    c.requires.names
    (subst (λ (d : CoreState). c.args.field < length (values_at d.table c.args.at)) (sym c.self.view_is) c.requires.field)
    c.set_value_behind.ensures

pub returns-clause-does : goal.returns-clause-does
returns-clause-does c = write_does _ _ c.self.view_is c.self.invariant c.args.mutator c.args.object _ c.args.field c.args.value _
    c.requires.names
    (subst (λ (d : CoreState). c.args.field < length (values_at d.table c.args.at)) (sym c.self.view_is) c.requires.field)
    c.set_value_behind.ensures

pub returns-clause-table : goal.returns-clause-table
returns-clause-table c =
    c.set_value_behind.ensures ∙ ap (λ (d : CoreState). set_value d.table c.args.at c.args.field c.args.value) c.self.view_is
