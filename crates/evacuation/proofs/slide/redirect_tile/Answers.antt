use Rattle.evacuation.proofs.Slides.Redirecting.{stays_on}
use Rattle.evacuation.proofs.Slides.KeptObjects.{kept_by, not_kept}
use Rattle.evacuation.proofs.slide.redirect_tile.Goals as goal

pub redirect_object-requires : goal.redirect_object-requires
redirect_object-requires g c =
    let (stands, (kept, (way, (words, (known, tile))))) = c.requires in
    (stands, (way, (words, (known, kept_by g.slide c.args.table.now c.args.kept kept c.args.at (c.is_kept.ensures.0 c.if-is_kept.true)))))

pub returns-else-is_kept-clause-goes_on : goal.returns-else-is_kept-clause-goes_on
returns-else-is_kept-clause-goes_on g c = stays_on g.slide _ c.args.table.now c.args.noted.now c.requires.0

pub returns-else-is_kept-clause-unnamed : goal.returns-else-is_kept-clause-unnamed
returns-else-is_kept-clause-unnamed g c =
    let (stands, (kept, (way, (words, (known, tile))))) = c.requires in
    λ i n e. not_kept g.slide c.args.table.now c.args.kept kept c.args.at c.is_kept.result c.is_kept.ensures.1 c.if-is_kept.false
    n.object n.is
