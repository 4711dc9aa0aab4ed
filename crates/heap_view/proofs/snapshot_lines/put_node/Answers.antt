use Rattle.std.proofs.Common.{◌∙◌, ◌+◌, ◌*◌, ℕ, List, ap, ap₂, sym}
use Rattle.std.specs.Fmt.{decimal}
use Rattle.std.specs.List.{flat_map}
use Rattle.std.proofs.lemmas.List.{append-nil}
use Rattle.heap_dump.proofs.Putting.{adds_as, adds_at, then_adds}
use Rattle.heap_view.specs.Census.{class_cmp, class_size}
use Rattle.heap_view.specs.Snapshot.{place_by}
use Rattle.heap_view.specs.SnapshotTexts.{node_text}
use Rattle.heap_view.specs.Types.{listed_class}
use Rattle.heap_view.specs.declared.classes.Class.{Class}
use Rattle.heap_view.proofs.snapshot_lines.put_node.Goals as goal

pub returns : goal.returns
returns c =
    let core = c.args.core.now in
    let told = node_text c.args.types.now core c.args.numbering.now.classes.items c.args.object in
    let place = c.class_place-place.ensures.place
    ∙ ap₂ (λ (t : List Class) (k : Class). place_by class_cmp t k) c.deref.ensures.value
    (c.listed_class-listed.ensures ∙ ap (listed_class c.args.types.now) c.class_of-class.ensures) in
    let name = ap₂ (λ (m n : ℕ). 2 + m + n) (c.from.ensures ∙ c.root_count.ensures) place in
    let size = ap (λ (n : ℕ). n * 8) (c.class_size.ensures ∙ ap class_size c.class_of-class.ensures) in
    adds_as _ _ _ _ (sym (ap (flat_map told) c.entry_of-entry.ensures ∙ append-nil (told c.entry_of-entry.result)))
    (then_adds _ _ _ _ _ (then_adds _ _ _ _ _ (then_adds _ _ _ _ _ (then_adds _ _ _ _ _ (then_adds _ _ _ _ _ (then_adds _ _ _ _ _
    (then_adds _ _ _ _ _ (then_adds _ _ _ _ _ c.put.ensures (adds_at decimal _ _ _ _ (sym name) c.put_digits.ensures))
    c.put-2.ensures) c.put_digits-2.ensures) c.put-3.ensures)
    (adds_at decimal _ _ _ _ (sym size) c.put_digits-3.ensures)) c.put-4.ensures)
    (adds_at decimal _ _ _ _ (sym c.edges_from.ensures.value) c.put_digits-4.ensures)) c.put-5.ensures)
