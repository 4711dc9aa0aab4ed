use Rattle.std.proofs.Common.{sym}
use Rattle.heap_dump.proofs.Putting.{adds_at, then_adds}
use Rattle.heap_view.specs.SnapshotTexts.{strings_text}
use Rattle.heap_view.proofs.snapshot_lines.put_numbered.Goals as goal

pub returns : goal.returns
returns c =
    then_adds _ _ _ _ _ (then_adds _ _ _ _ _ (then_adds _ _ _ _ _ (then_adds _ _ _ _ _ c.put_head.ensures
    c.put_nodes.ensures)
    c.put_edges.ensures)
    c.put_empty_lists.ensures)
    (adds_at (strings_text c.args.types.now c.args.core.now) _ _ _ _ (sym c.deref.ensures.value) c.put_strings.ensures)
