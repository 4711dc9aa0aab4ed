use Rattle.std.proofs.Common.{◌∙◌, ◌++◌, ◌∷◌, [], List, Some, ℕ, ap, subst, sym}
use Rattle.heap_view.proofs.KeptStarts.{AreStartsTo, starts_all, starts_first, starts_less, starts_more}
use Rattle.heap_view.proofs.snapshot.kept_starts.Goals as goal

pub loop-object-init : goal.loop-object-init
loop-object-init c = starts_first c.args.core.now _ c.new-items.ensures.items

pub kept_above-requires : goal.kept_above-requires
kept_above-requires c = c.loop-object.invariant.kept

pub loop-object-smaller : goal.loop-object-smaller
loop-object-smaller c =
    starts_less c.args.core.now c.law_shaped.ensures c.loop-object.last c.kept_above.result c.in-Some.object c.in-Some.is
    c.kept_above.ensures

pub loop-object-preserved : goal.loop-object-preserved
loop-object-preserved c =
    subst (λ (l : List ℕ). AreStartsTo c.args.core.now (Some c.in-Some.object) l)
    (ap (λ (n : ℕ). c.loop-object.items.items ++ n ∷ []) (sym c.word.ensures) ∙ sym c.in_ok-push.ensures.items)
    (starts_more c.args.core.now c.loop-object.last c.kept_above.result c.in-Some.object c.loop-object.items.items c.in-Some.is
    c.kept_above.ensures c.loop-object.invariant)

pub returns : goal.returns
returns c =
    starts_all c.args.core.now c.law_shaped.ensures c.loop-object.last c.kept_above.result c.loop-object.items.items c.in_default.is
    c.kept_above.ensures c.loop-object.invariant
