use Rattle.std.proofs.Common.{◌∙◌, ◌∷◌, [], ap, sym}
use Rattle.heap_model.specs.Graph.{RootCounts}
use Rattle.heap_walk.specs.Holders.{root_holder}
use Rattle.heap_walk.specs.declared.holders.Holder.{Holder}
use Rattle.heap_walk.proofs.Linking.{one_root}
use Rattle.heap_walk.proofs.holders.root_holder_at.Goals as goal

pub returns-then-root_leads_to : goal.returns-then-root_leads_to
returns-then-root_leads_to c =
    one_root c.args.core.now c.args.name c.args.place (sym c.root_leads_to.ensures ∙ c.if-root_leads_to.true)
    ∙ ap (λ (p : RootCounts). root_holder p c.args.place ∷ []) (sym (c.places.ensures.places ∙ c.roots.ensures.places))
    ∙ ap (λ (h : Holder). h ∷ []) (sym c.root_holder.ensures)
