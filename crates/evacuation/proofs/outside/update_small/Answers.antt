use Rattle.std.proofs.Common.{◌≡◌, ◌∙◌, ◌/◌, ℕ, Option, Some, None, List, ap, subst, slice_get}
use Rattle.regions.specs.declared.row.Shape.{Shape}
use Rattle.regions.specs.Table.{Table}
use Rattle.regions.specs.Walks.{IsPlacedTile}
use Rattle.refinement.specs.Remembering.{field_word}
use Rattle.refinement.proofs.Holders.{fields_of, shape_object}
use Rattle.evacuation.specs.Space.{IsFieldClean}
use Rattle.evacuation.specs.Cursors.{AreCardsFieldsOutside}
use Rattle.evacuation.specs.Turns.{Pause, layout, space}
use Rattle.evacuation.proofs.Turns.KeptObjects.{kept_object}
use Rattle.evacuation.proofs.outside.update_small.Goals as goal

-- what names nothing of the set is clean
outside_clean : (p : Pause) (t : Table) (card at i : ℕ) → AreCardsFieldsOutside p t card at → field_word at i / p.card_words ≡ card
    → IsFieldClean (layout p) (space p t) at i
outside_clean p t card at i none e y None here f = tt
outside_clean p t card at i none e y (Some a) here f =
    none i a e (ap (λ (l : List (Option ℕ)). slice_get l i) (fields_of t at y (kept_object p t at y here)) ∙ f)

pub names_set-requires : goal.names_set-requires
names_set-requires g c =
    let (stands, (kept, (place, (outside, tile)))) = c.requires in
    let object = shape_object c.args.table.now c.args.at _ _ _
    (subst (λ (s : Shape). IsPlacedTile c.args.table.now c.args.at s) c.in-Object.is tile) in
    (stands, (place.known, object))

pub returns-then-not-names_set-clause-clean : goal.returns-then-not-names_set-clause-clean
returns-then-not-names_set-clause-clean g c =
    λ visited i v e. outside_clean g.pause c.args.table.now c.args.place.card c.args.at i
    (c.names_set.ensures c.if-not-names_set.true) e
