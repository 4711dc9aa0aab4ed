use Rattle.std.proofs.Common.{◌∙◌, sym}
use Rattle.std.specs.Fmt.{decimal}
use Rattle.heap_dump.proofs.Putting.{adds_at, then_adds}
use Rattle.heap_view.proofs.snapshot_lines.put_root_nodes.Goals as goal

pub returns : goal.returns
returns c =
    then_adds _ _ _ _ _ (then_adds _ _ _ _ _ c.put.ensures
    (adds_at decimal _ _ _ _ (sym (c.from.ensures ∙ c.root_edges.ensures)) c.put_digits.ensures))
    c.put-2.ensures
