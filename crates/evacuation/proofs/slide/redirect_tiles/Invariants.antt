use Rattle.std.proofs.Common.{◌≡◌, ◌/◌, ◌+◌, ◌*◌, ◌-◌}
use Rattle.std.specs.Prelude.{IsSome}
use Rattle.regions.specs.Table.{tile_in}
use Rattle.evacuation.specs.Sliding.{SlideGoesOn}
use Rattle.evacuation.proofs.Slides.Cards.{AreUnnamedBelow}
use Rattle.evacuation.proofs.slide.redirect_tiles.Given as goal

abbrev pub ghost-redirect_tile : goal.ghost-redirect_tile
ghost-redirect_tile g a = g.slide

abbrev pub invariant-tiles : goal.invariant-tiles
invariant-tiles g l = record {
  on : SlideGoesOn g.slide (λ c. c ≡ l.card) l.initial.table l.table l.initial.noted l.noted;
  tile : IsSome (tile_in l.table l.at);
  region : l.at / g.slide.words ≡ l.fn.first / g.slide.words;
  unnamed : AreUnnamedBelow g.slide l.table l.card l.at;
}

abbrev pub decreases-tiles : goal.decreases-tiles
decreases-tiles g l = l.fn.first / g.slide.words * g.slide.words + g.slide.words - l.at
