use Rattle.std.proofs.Common.{ℕ, Option, Some, sym, ap, ◌∙◌, arith}
use Rattle.std.proofs.lemmas.Option.{slice_get_past}
use Rattle.object_graph.specs.Fields.{object_in}
use Rattle.object_graph.proofs.ObjectLaws.{entry_of, pointer_read}
use Rattle.object_graph.proofs.objects.Objects.get_pointer.Goals as goal

pub overflow_add-start : goal.overflow_add-start
overflow_add-start c = let w = entry_of _ _ _ _ _ c.self.view_is c.self.invariant.0 c.requires c.index.ensures in
    omega (arith, c.self.inside.words.ok.0, w.within, c.start.ensures, c.if-field-entry.true)

pub index-word-requires : goal.index-word-requires
index-word-requires c = let w = entry_of _ _ _ _ _ c.self.view_is c.self.invariant.0 c.requires c.index.ensures in
    omega (arith, c.self.inside.words.ok.0, w.within, c.start.ensures, c.if-field-entry.true)

pub returns-then-field-entry : goal.returns-then-field-entry
returns-then-field-entry c =
    let w = entry_of _ _ _ _ _ c.self.view_is c.self.invariant.0 c.requires c.index.ensures in
    ap (λ (p : Option ℕ). Some p) c.of_word.ensures
    ∙ sym (pointer_read _ _ _ _ _ _ w c.if-field-entry.true (rw (← c.start.ensures) c.index-word.ensures))

pub returns-else-field-entry : goal.returns-else-field-entry
returns-else-field-entry c =
    let w = entry_of _ _ _ _ _ c.self.view_is c.self.invariant.0 c.requires c.index.ensures in
    sym (slice_get_past (object_in c.args.self.now c.args.place).pointers c.args.field (omega (arith, w.pointers, c.if-field-entry.false)))
