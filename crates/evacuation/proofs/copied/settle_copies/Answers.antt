use Rattle.std.proofs.Common.{◌≡◌, ◌∙◌, sym, arith, None, rules}
use Rattle.evacuation.proofs.Lists.{get_within}
use Rattle.evacuation.proofs.Turns.Following.{goes_further, stays_on}
use Rattle.evacuation.proofs.Loops.Destinations.{regions_more, regions_all}
use Rattle.evacuation.proofs.copied.settle_copies.Goals as goal

pub loop-region-init : goal.loop-region-init
loop-region-init g c = record { on = stays_on c.requires; done = record { each = λ m k h e. absurd (omega arith) } }

pub settle_region-requires : goal.settle_region-requires
settle_region-requires g c =
    (c.loop-region.invariant.on.stands, record { at = c.loop-region.n; is = sym c.region.ensures.region ∙ c.in-Some.is })

pub overflow_add-n : goal.overflow_add-n
overflow_add-n g c =
    let k =
    get_within c.loop-region.context.destinations.regions c.loop-region.n c.in-Some.region (sym c.region.ensures.region ∙ c.in-Some.is) in
    let f = c.region.ensures.few in
    omega (arith, k, f)

pub loop-region-preserved : goal.loop-region-preserved
loop-region-preserved g c =
    let v = c.loop-region.invariant in
    let on = c.settle_region.ensures.goes_on in
    record {
      on = goes_further v.on on;
      done = regions_more g.pause c.loop-region.table c.settle_region.new.table c.loop-region.context c.settle_region.new.context
          v.on.stands on c.loop-region.n c.in-Some.region (sym c.region.ensures.region ∙ c.in-Some.is) v.done
          c.settle_region.ensures.settled;
    }

pub returns-clause-settled : goal.returns-clause-settled
returns-clause-settled g c =
    let e : c.region.result ≡ None = search rules in
    regions_all g.pause c.loop-region.context.noted c.loop-region.table c.loop-region.context.destinations c.loop-region.n
    c.loop-region.invariant.done (sym c.region.ensures.region ∙ e)
