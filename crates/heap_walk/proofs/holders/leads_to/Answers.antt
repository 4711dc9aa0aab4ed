use Rattle.heap_walk.specs.Holders.{links_at}
use Rattle.heap_walk.proofs.Entries.{kept_there}
use Rattle.heap_walk.proofs.Linking.{link_kept, link_leads, link_nil}
use Rattle.heap_walk.proofs.holders.leads_to.Goals as goal

pub name-requires : goal.name-requires
name-requires c =
    kept_there c.args.core.now c.table.result.now c.in-Some.at c.table.ensures
    (link_kept c.args.core.now c.args.weak c.args.object c.args.index c.in-Some.at c.law_remembers.ensures.core c.requires.kept
    c.in-Some.ensures)

pub returns-in-Some : goal.returns-in-Some
returns-in-Some c =
    link_leads c.args.core.now c.table.result.now c.args.name c.name.result c.in-Some.at (links_at c.args.weak c.args.core.now
    c.args.object)
    c.args.index c.table.ensures
    (kept_there c.args.core.now c.table.result.now c.in-Some.at c.table.ensures
    (link_kept c.args.core.now c.args.weak c.args.object c.args.index c.in-Some.at c.law_remembers.ensures.core c.requires.kept
    c.in-Some.ensures))
    c.name.ensures c.in-Some.ensures

pub returns-in-None : goal.returns-in-None
returns-in-None c = link_nil c.args.core.now c.args.name (links_at c.args.weak c.args.core.now c.args.object) c.args.index c.in-None.ensures
