use Rattle.std.proofs.Common.{◌∙◌, sym}
use Rattle.std.specs.List.{flat_map}
use Rattle.heap_dump.proofs.Putting.{adds_at, then_adds}
use Rattle.heap_view.specs.SnapshotTexts.{object_node}
use Rattle.heap_view.proofs.snapshot_lines.put_nodes.Goals as goal

pub put_object_nodes-requires-clause-items : goal.put_object_nodes-requires-clause-items
put_object_nodes-requires-clause-items c = c.deref.ensures.value ∙ c.requires.starts_are

pub returns : goal.returns
returns c =
    then_adds _ _ _ _ _ (then_adds _ _ _ _ _ c.put_root_nodes.ensures
    (adds_at (flat_map (object_node c.args.types.now c.args.core.now c.args.numbering.now.classes.items)) _ _ _ _
    (sym (c.deref.ensures.value ∙ c.requires.starts_are)) c.put_object_nodes.ensures)) c.put.ensures
