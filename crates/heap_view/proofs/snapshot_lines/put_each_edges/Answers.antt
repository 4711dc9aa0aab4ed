use Rattle.std.proofs.Common.{ℕ, IsSome, subst, sym}
use Rattle.step_core.specs.Stands.{kept_of}
use Rattle.heap_dump.proofs.Putting.{adds_at, adds_more}
use Rattle.heap_view.specs.SnapshotTexts.{object_edges}
use Rattle.heap_view.proofs.KeptStarts.{item_at, item_kept}
use Rattle.heap_view.proofs.snapshot_lines.put_each_edges.Goals as goal

pub put_object_edges-requires-clause-kept : goal.put_object_edges-requires-clause-kept
put_object_edges-requires-clause-kept c =
    subst (λ (n : ℕ). IsSome (kept_of c.args.core.now n)) (sym c.new.ensures)
    (item_kept c.args.core.now c.args.items.now c.requires.numbering.nodes c.requires.items c.loop-start.start-index _
    c.loop-start-test.true)

pub loop-start-preserved : goal.loop-start-preserved
loop-start-preserved c =
    let told = object_edges c.args.core.now c.args.numbering.now.classes.items in
    adds_more told c.args.items.now c.loop-start.start-index _ _ _ _
    (item_at c.args.items.now c.loop-start.start-index _ c.loop-start-test.true) c.loop-start.invariant
    (adds_at told _ _ _ _ (sym c.new.ensures) c.put_object_edges.ensures)
