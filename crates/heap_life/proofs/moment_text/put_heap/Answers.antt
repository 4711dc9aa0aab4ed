use Rattle.heap_dump.proofs.Putting.{then_adds}
use Rattle.heap_life.proofs.moment_text.put_heap.Goals as goal

pub returns : goal.returns
returns c =
    then_adds _ _ _ _ _ (then_adds _ _ _ _ _ (then_adds _ _ _ _ _ (then_adds _ _ _ _ _ (then_adds _ _ _ _ _ (then_adds _ _ _ _ _
    (c.put_totals.ensures)
    (c.put_state.ensures))
    (c.put_buffers.ensures))
    (c.put_queue.ensures))
    (c.put_logs.ensures))
    (c.put_deletion_logs.ensures))
    (c.put_roots.ensures)
