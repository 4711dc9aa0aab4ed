use Rattle.region_tests.proofs.Ready.{ready_new, ready_after}
use Rattle.region_tests.proofs.places.places.Goals as goal

pub loop-mutator-init : goal.loop-mutator-init
loop-mutator-init g c = ready_new _ _ _ _ _ _ c.in-Ok.ensures.made c.in-Ok.ensures.unmoved c.in_ok-buffers.ensures.closed
    (c.in_ok-buffers.ensures.stand _)

pub loop-mutator-preserved : goal.loop-mutator-preserved
loop-mutator-preserved g c = ready_after c.allocate.result _ _ _ _ _ _ _ _ _ c.loop-mutator.invariant c.allocate.ensures.placed
    c.allocate.ensures.table_same c.allocate.ensures.buffers_same
