use Rattle.std.proofs.Common.{ℕ, IsSome, subst, sym}
use Rattle.step_core.specs.Stands.{kept_of}
use Rattle.heap_dump.proofs.Putting.{adds_at, adds_more}
use Rattle.heap_view.specs.SnapshotTexts.{object_node}
use Rattle.heap_view.proofs.KeptStarts.{item_at, item_kept}
use Rattle.heap_view.proofs.snapshot_lines.put_object_nodes.Goals as goal

pub put_node-requires-clause-kept : goal.put_node-requires-clause-kept
put_node-requires-clause-kept c =
    subst (λ (n : ℕ). IsSome (kept_of c.args.core.now n)) (sym c.new.ensures)
    (item_kept c.args.core.now c.args.items.now c.requires.numbering.nodes c.requires.items c.loop-start.start-index _
    c.loop-start-test.true)

pub loop-start-preserved : goal.loop-start-preserved
loop-start-preserved c =
    let told = object_node c.args.types.now c.args.core.now c.args.numbering.now.classes.items in
    adds_more told c.args.items.now c.loop-start.start-index _ _ _ _
    (item_at c.args.items.now c.loop-start.start-index _ c.loop-start-test.true) c.loop-start.invariant
    (adds_at told _ _ _ _ (sym c.new.ensures) c.put_node.ensures)
