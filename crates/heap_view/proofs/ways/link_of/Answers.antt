use Rattle.std.proofs.Common.{◌≡◌, false, arith, subst}
use Rattle.heap_walk.specs.declared.holders.Holder.{Holder}
use Rattle.heap_walk.proofs.Entries.{kept_there}
use Rattle.heap_walk.proofs.Linking.{link_kept}
use Rattle.heap_walk.proofs.ObjectNames.{kept_named}
use Rattle.heap_view.specs.Search.{IsLink}
use Rattle.heap_view.proofs.WayBack.{link_told}
use Rattle.heap_view.proofs.ways.link_of.Goals as goal

pub name-name-requires : goal.name-name-requires
name-name-requires c =
    let core = c.args.core.now in
    let leads = c.requires.leads in
    kept_there core c.table.result.now c.args.target c.table.ensures
    (link_kept core false c.args.object leads.index c.args.target c.law_remembers.ensures.core c.requires.kept leads.leads)

pub unreachable-requires : goal.unreachable-requires
unreachable-requires c =
    let core = c.args.core.now in
    let leads = c.requires.leads in
    let kept = link_kept core false c.args.object leads.index c.args.target c.law_remembers.ensures.core c.requires.kept leads.leads in
    let named = kept_named core c.table.result.now c.args.target c.name-name.result c.table.ensures kept c.name-name.ensures in
    let (h, found, link) = link_told core c.args.object c.args.target c.name-name.result _ _ c.next_holder.result c.law_shaped.ensures
    c.requires.kept leads kept named
    (omega (arith, c.root_count.ensures, c.from.ensures, c.from-2.ensures, c.word.ensures)) c.next_holder.ensures in
    let none = c.in-None.is in
    cc

pub returns : goal.returns
returns c =
    let core = c.args.core.now in
    let leads = c.requires.leads in
    let kept = link_kept core false c.args.object leads.index c.args.target c.law_remembers.ensures.core c.requires.kept leads.leads in
    let named = kept_named core c.table.result.now c.args.target c.name-name.result c.table.ensures kept c.name-name.ensures in
    let (h, found, link) = link_told core c.args.object c.args.target c.name-name.result _ _ c.next_holder.result c.law_shaped.ensures
    c.requires.kept leads kept named
    (omega (arith, c.root_count.ensures, c.from.ensures, c.from-2.ensures, c.word.ensures)) c.next_holder.ensures in
    let is = c.in-Some.is in
    let same : h ≡ c.in-Some.holder = cc in
    subst (λ (x : Holder). IsLink core c.args.object c.args.target x) same link
