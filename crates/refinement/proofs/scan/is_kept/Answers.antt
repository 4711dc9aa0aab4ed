use Rattle.std.proofs.Common.{◌≡◌, subst, ⊎_elim, true, false}
use Rattle.regions.specs.declared.row.Shape.{Shape}
use Rattle.regions.specs.Walks.{IsPlacedTile}
use Rattle.mark_bitmap.specs.Tops.{below_previous}
use Rattle.refinement.proofs.Holders.{shape_object, shape_filler, shape_forwarded, shape_within, kept_above, kept_marked, kept_nothing}
use Rattle.refinement.proofs.scan.is_kept.Goals as goal

pub returns-then-not-lies_below_previous : goal.returns-then-not-lies_below_previous
returns-then-not-lies_below_previous c =
    let tile = subst (λ (s : Shape). IsPlacedTile c.args.table.now c.args.at s) c.in-Object.is c.requires.tile in
    let above : below_previous c.args.table.now c.args.tams.now c.args.at ≡ false = cc in
    kept_above c.args.table.now c.args.tams.now c.args.marks.now c.args.at above (shape_object c.args.table.now c.args.at _ _ _ tile)

pub get-requires : goal.get-requires
get-requires c =
    let tile = subst (λ (s : Shape). IsPlacedTile c.args.table.now c.args.at s) c.in-Object.is c.requires.tile in
    shape_within c.args.table.now c.args.at _ _ _ _ c.law.ensures c.requires.marks tile

pub returns-else-not-lies_below_previous : goal.returns-else-not-lies_below_previous
returns-else-not-lies_below_previous c =
    let tile = subst (λ (s : Shape). IsPlacedTile c.args.table.now c.args.at s) c.in-Object.is c.requires.tile in
    let below : below_previous c.args.table.now c.args.tams.now c.args.at ≡ true = cc in
    kept_marked c.args.table.now c.args.tams.now c.args.marks.now c.args.at c.get.result below c.get.ensures
    (shape_object c.args.table.now c.args.at _ _ _ tile)

pub returns-in-Filler : goal.returns-in-Filler
returns-in-Filler c =
    kept_nothing c.args.table.now c.args.tams.now c.args.marks.now c.args.at (⊎_elim
    (λ p.
    shape_filler c.args.table.now c.args.at p.0 (subst (λ (s : Shape). IsPlacedTile c.args.table.now c.args.at s) p.1 c.requires.tile))
    (λ p. shape_forwarded c.args.table.now c.args.at p.0 p.1
    (subst (λ (s : Shape). IsPlacedTile c.args.table.now c.args.at s) p.2 c.requires.tile))
    c.in-Filler.is)
