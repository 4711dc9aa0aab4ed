use Rattle.std.proofs.Common.{arith, ap, length}
use Rattle.bit_sets.proofs.PageWords.{words_none, pages_none}
use Rattle.bit_sets.proofs.pages.PagedWords.new.Goals as goal

pub invariant_of-result : goal.invariant_of-result
invariant_of-result c = (
  pages_none _ _ _ _ c.requires (omega (arith, c.div_ceil.ensures)) (c.in_ok-places.ensures.items_if_clones_equal (λ y e. e))
      (ap length c.in_ok-pool.ensures.items),
  omega (arith, c.in_ok-pool.ensures.exact),
)

pub returns : goal.returns
returns c = words_none _ _ _ _ (c.in_ok-places.ensures.items_if_clones_equal (λ y e. e))
