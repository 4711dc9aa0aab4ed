use Rattle.std.proofs.Common.{◌∙◌, ◌+◌, ℕ, ap, ap₂, length}
use Rattle.heap_dump.proofs.Putting.{adds_as, then_adds}
use Rattle.heap_view.specs.SnapshotTexts.{counts_text}
use Rattle.heap_view.proofs.snapshot_lines.put_head.Goals as goal

pub returns : goal.returns
returns c =
    let nodes = ap (λ (n : ℕ). 2 + n) (ap length (c.as_slice.ensures.value ∙ c.requires.starts_are)) in
    then_adds _ _ _ _ _ (then_adds _ _ _ _ _ (then_adds _ _ _ _ _ (then_adds _ _ _ _ _ c.put_node_fields.ensures c.put_node_types.ensures)
    c.put_edge_types.ensures) c.put_other_fields.ensures)
    (adds_as _ _ _ _ (ap₂ counts_text nodes c.edge_count.ensures) c.put_counts.ensures)
