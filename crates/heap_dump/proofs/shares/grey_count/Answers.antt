use Rattle.std.proofs.Common.{◌∙◌, ◌+◌, ℕ, List, ap, sym, subst, zero-add, arith}
use Rattle.std.specs.Prelude.{min}
use Rattle.heap_words.specs.declared.addr.Addr.{Addr}
use Rattle.regions.specs.declared.row.Shape.{Shape}
use Rattle.regions.specs.Walks.{ArePlaced}
use Rattle.heap_dump.specs.Shares.{grey_in}
use Rattle.heap_dump.proofs.shares.grey_count.Goals as goal

pub loop-at-init : goal.loop-at-init
loop-at-init c =
    let is = c.into_iter-at-iterator.ensures.into_iter_gives in
    record {
      placed = subst (λ (l : List (Addr × Shape)). ArePlaced c.args.core.now.table l) (sym is) c.walk_region-at-items.ensures.placed;
      fits = omega arith;
      counted = ap (λ (l : List (Addr × Shape)). min (0 + grey_in c.args.core.now l) 4294967295)
          (is ∙ c.walk_region-at-items.ensures.tiles) ∙ ap (λ (n : ℕ). min n 4294967295) (zero-add _);
    }

pub returns : goal.returns
returns c =
    let none = ap (λ (l : List (Addr × Shape)). grey_in c.args.core.now l) c.in-None.ensures.steps.0 in
    let all = c.loop-at.invariant.counted in
    let fits = c.loop-at.invariant.fits in
    omega (arith, none, all, fits)
