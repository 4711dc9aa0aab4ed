use Rattle.std.proofs.Common.{◌∙◌, None, refl, sym, arith, below_more}
use Rattle.heap_walk.specs.Holders.{leads_to, links_at}
use Rattle.heap_walk.proofs.Entries.{kept_there}
use Rattle.heap_walk.proofs.Linking.{first_leads, none_leads}
use Rattle.heap_walk.proofs.holders.first_link.Goals as goal

pub links-index-end-requires : goal.links-index-end-requires
links-index-end-requires c = kept_there c.args.core.now c.args.core.now.table c.args.object refl c.requires

pub returns-then-leads_to : goal.returns-then-leads_to
returns-then-leads_to c =
    first_leads (leads_to c.args.core.now.table c.args.name) (links_at c.args.weak c.args.core.now c.args.object) c.loop-index.index None
    (omega (arith, c.loop-index-test.true, c.links-index-end.ensures)) c.loop-index.invariant (sym c.leads_to.ensures ∙ c.if-leads_to.true)

pub loop-index-preserved : goal.loop-index-preserved
loop-index-preserved c = below_more _ _ c.loop-index.invariant (sym c.leads_to.ensures ∙ c.if-leads_to.false)

pub returns : goal.returns
returns c =
    none_leads (leads_to c.args.core.now.table c.args.name) (links_at c.args.weak c.args.core.now c.args.object) c.loop-index.index None
    (omega (arith, c.loop-index-test.false, c.links-index-end.ensures)) c.loop-index.invariant
