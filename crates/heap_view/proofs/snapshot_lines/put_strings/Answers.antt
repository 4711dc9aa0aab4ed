use Rattle.std.proofs.Common.{sym}
use Rattle.heap_dump.proofs.Putting.{adds_at, then_adds}
use Rattle.heap_dump.specs.Lists.{text_below}
use Rattle.heap_view.specs.SnapshotTexts.{weak_name}
use Rattle.heap_view.proofs.snapshot_lines.put_strings.Goals as goal

pub returns : goal.returns
returns c =
    then_adds _ _ _ _ _ (then_adds _ _ _ _ _ (then_adds _ _ _ _ _ (then_adds _ _ _ _ _ c.put.ensures
    c.put_root_names.ensures)
    c.put_class_names.ensures)
    (adds_at (text_below weak_name) _ _ _ _ (sym c.requires) c.put_weak_names.ensures))
    c.put-2.ensures
