use Rattle.std.proofs.Common.{refl, arith}
use Rattle.regions.proofs.Tiles.WeakStarts.{next_found, next_passed, next_none}
use Rattle.regions.proofs.weak_starts.WeakStarts.next.Goals as goal

pub returns-in-Some-next_below : goal.returns-in-Some-next_below
returns-in-Some-next_below c =
    rw (← c.self.view_is)
    (next_found c.self.inside.region_words c.self.inside.regions c.self.inside.addresses c.self.invariant c.args.from c.loop-region.left
    c.in-Some.region _ c.in-Some-next_below.found c.loop-region.invariant c.in-Some.ensures.lowest.lowest (omega (arith, c.max.ensures))
    (λ a low high. omega (arith, c.max.ensures)) c.in-Some-next_below.ensures.lowest)

pub loop-region-preserved : goal.loop-region-preserved
loop-region-preserved c =
    next_passed c.self.inside.region_words c.self.inside.regions c.self.inside.addresses c.self.invariant c.args.from
    c.loop-region.left c.in-Some.region _ _ refl c.loop-region.invariant c.in-Some.ensures.lowest.lowest
    (λ a low high. omega (arith, c.max.ensures)) c.in_default-next_below.ensures.lowest

pub returns : goal.returns
returns c =
    rw (← c.self.view_is)
    (next_none c.self.inside.region_words c.self.inside.regions c.self.inside.addresses c.self.invariant c.args.from c.loop-region.left
    c.loop-region.invariant c.in_default.ensures.lowest)
