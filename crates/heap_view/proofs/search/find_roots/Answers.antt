use Rattle.std.proofs.Common.{arith}
use Rattle.heap_view.proofs.Searched.{roots_all, roots_first}
use Rattle.heap_view.proofs.search.find_roots.Goals as goal

pub loop-place-init : goal.loop-place-init
loop-place-init c = roots_first c.args.core.now _ _ c.requires.empty c.requires.none

pub returns : goal.returns
returns c =
    roots_all c.args.core.now _ _ _ (omega (arith, c.root_count-place-end.ensures, c.loop-place-test.false)) c.loop-place.invariant
