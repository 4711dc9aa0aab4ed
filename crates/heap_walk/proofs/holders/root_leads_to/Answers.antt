use Rattle.std.proofs.Common.{◌∙◌, None, sym, ap}
use Rattle.std.specs.Prelude.{slice_index_or}
use Rattle.heap_walk.proofs.Entries.{kept_there}
use Rattle.heap_walk.proofs.Linking.{root_kept, root_leads}
use Rattle.heap_walk.proofs.holders.root_leads_to.Goals as goal

pub name-requires : goal.name-requires
name-requires c =
    kept_there c.args.core.now c.table.result.now c.in-Some.at c.table.ensures
    (root_kept c.args.core.now c.args.place c.in-Some.at c.law_remembers.ensures.core
    (ap (λ l. slice_index_or l c.args.place None) (sym c.roots.ensures.words) ∙ sym c.get.ensures ∙ c.in-Some.is))

pub returns-in-Some : goal.returns-in-Some
returns-in-Some c =
    let word = ap (λ l. slice_index_or l c.args.place None) (sym c.roots.ensures.words) ∙ sym c.get.ensures ∙ c.in-Some.is in
    root_leads c.args.core.now c.table.result.now c.args.name c.name.result c.in-Some.at _ c.table.ensures
    (kept_there c.args.core.now c.table.result.now c.in-Some.at c.table.ensures
    (root_kept c.args.core.now c.args.place c.in-Some.at c.law_remembers.ensures.core word))
    c.name.ensures word
