use Rattle.std.proofs.Common.{◌∙◌, ap, arith, length, sym, slice_get}
use Rattle.regions.specs.Table.{values_at}
use Rattle.step_core.specs.Stands.{CoreState}
use Rattle.step_core.proofs.Cores.Filling.{names_at}
use Rattle.step_core.proofs.Cores.Keeping.{object_led}
use Rattle.step_core.proofs.Cores.Loads.{read_at_done, read_at_past}
use Rattle.step_core.proofs.heap.Core.read_at.Goals as goal

pub value_count-requires : goal.value_count-requires
value_count-requires c =
    let names = names_at _ c.args.mutator c.args.object c.args.at c.law_remembers.ensures.core c.requires.mutator c.requires.object
    c.requires.held in
    object_led _ _ _ _ c.self.view_is c.self.invariant names.leads

pub returns-then-field-value_count : goal.returns-then-field-value_count
returns-then-field-value_count c =
    let names = names_at _ c.args.mutator c.args.object c.args.at c.law_remembers.ensures.core c.requires.mutator c.requires.object
    c.requires.held in
    read_at_past c.args.self.now c.args.mutator c.args.object c.args.at c.args.field names.leads
    (let count = c.value_count.ensures ∙ ap (λ (d : CoreState). length (values_at d.table c.args.at)) c.self.view_is in omega arith)

pub returns : goal.returns
returns c =
    let names = names_at _ c.args.mutator c.args.object c.args.at c.law_remembers.ensures.core c.requires.mutator c.requires.object
    c.requires.held in
    read_at_done c.args.self.now c.args.mutator c.args.object c.args.at c.args.field c.get_value.result names.leads
    (ap (λ (d : CoreState). slice_get (values_at d.table c.args.at) c.args.field) (sym c.self.view_is) ∙ c.get_value.ensures)
