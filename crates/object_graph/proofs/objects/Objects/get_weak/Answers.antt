use Rattle.std.proofs.Common.{ℕ, Option, Some, sym, ap, ◌∙◌, arith}
use Rattle.std.proofs.lemmas.Option.{slice_get_past}
use Rattle.object_graph.specs.Fields.{object_in}
use Rattle.object_graph.proofs.ObjectLaws.{entry_of, weak_read}
use Rattle.object_graph.proofs.objects.Objects.get_weak.Goals as goal

pub overflow_cast-entry : goal.overflow_cast-entry
overflow_cast-entry c = let w = entry_of _ _ _ _ _ c.self.view_is c.self.invariant.0 c.requires c.index.ensures in
    omega (arith, c.self.inside.words.ok.0, w.within)

pub overflow_add-start : goal.overflow_add-start
overflow_add-start c = let w = entry_of _ _ _ _ _ c.self.view_is c.self.invariant.0 c.requires c.index.ensures in
    omega (arith, c.self.inside.words.ok.0, w.within, c.start.ensures)

pub overflow_add-start-then-slot-from : goal.overflow_add-start-then-slot-from
overflow_add-start-then-slot-from c = let w = entry_of _ _ _ _ _ c.self.view_is c.self.invariant.0 c.requires c.index.ensures in
    omega (arith, c.self.inside.words.ok.0, w.within, c.start.ensures, c.weaks.ensures, c.from.ensures, c.if-slot-from.true)

pub index-word-requires : goal.index-word-requires
index-word-requires c = let w = entry_of _ _ _ _ _ c.self.view_is c.self.invariant.0 c.requires c.index.ensures in
    omega (arith, c.self.inside.words.ok.0, w.within, c.start.ensures, c.weaks.ensures, c.from.ensures, c.if-slot-from.true)

pub returns-then-slot-from : goal.returns-then-slot-from
returns-then-slot-from c =
    let w = entry_of _ _ _ _ _ c.self.view_is c.self.invariant.0 c.requires c.index.ensures in
    ap (λ (p : Option ℕ). Some p) c.of_word.ensures
    ∙ sym (weak_read _ _ _ _ _ _ w (omega (arith, c.weaks.ensures, c.from.ensures, c.if-slot-from.true))
    (rw (← c.start.ensures) c.index-word.ensures))

pub returns-else-slot-from : goal.returns-else-slot-from
returns-else-slot-from c =
    let w = entry_of _ _ _ _ _ c.self.view_is c.self.invariant.0 c.requires c.index.ensures in
    sym (slice_get_past (object_in c.args.self.now c.args.place).weaks c.args.slot
    (omega (arith, w.weaks, c.weaks.ensures, c.from.ensures, c.if-slot-from.false)))
