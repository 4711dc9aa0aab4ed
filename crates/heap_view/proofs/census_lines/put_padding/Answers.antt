use Rattle.std.proofs.Common.{refl}
use Rattle.heap_dump.proofs.Putting.{leads_first, leads_on, leads_all}
use Rattle.heap_view.proofs.Columns.{pad_more, pad_over}
use Rattle.heap_view.proofs.census_lines.put_padding.Goals as goal

pub loop-place-init : goal.loop-place-init
loop-place-init c = leads_first _ _ _ refl

pub loop-place-preserved : goal.loop-place-preserved
loop-place-preserved c =
    leads_on _ _ _ _ _ _ _ (pad_more 9 c.loop-place.place c.loop-place.left c.loop-place-test.true) c.loop-place.invariant
    c.put_space.ensures

pub returns : goal.returns
returns c = leads_all _ _ _ _ (pad_over 9 c.loop-place.place c.loop-place.left c.loop-place-test.false) c.loop-place.invariant
