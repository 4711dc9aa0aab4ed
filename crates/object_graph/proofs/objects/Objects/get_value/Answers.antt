use Rattle.std.proofs.Common.{sym, ◌∙◌, arith}
use Rattle.std.proofs.lemmas.Option.{slice_get_past}
use Rattle.object_graph.specs.Fields.{object_in}
use Rattle.object_graph.proofs.ObjectLaws.{entry_of, value_read}
use Rattle.object_graph.proofs.objects.Objects.get_value.Goals as goal

pub overflow_cast-start : goal.overflow_cast-start
overflow_cast-start c = let w = entry_of _ _ _ _ _ c.self.view_is c.self.invariant.0 c.requires c.index.ensures in
    omega (arith, c.self.inside.words.ok.0, w.within)

pub overflow_add-start : goal.overflow_add-start
overflow_add-start c = let w = entry_of _ _ _ _ _ c.self.view_is c.self.invariant.0 c.requires c.index.ensures in
    omega (arith, c.self.inside.words.ok.0, w.within, c.start.ensures)

pub overflow_add-start-then-field-entry : goal.overflow_add-start-then-field-entry
overflow_add-start-then-field-entry c = let w = entry_of _ _ _ _ _ c.self.view_is c.self.invariant.0 c.requires c.index.ensures in
    omega (arith, c.self.inside.words.ok.0, w.within, c.start.ensures, c.weaks.ensures, c.from.ensures)

pub overflow_add-start-then-field-entry-2 : goal.overflow_add-start-then-field-entry-2
overflow_add-start-then-field-entry-2 c = let w = entry_of _ _ _ _ _ c.self.view_is c.self.invariant.0 c.requires c.index.ensures in
    omega (arith, c.self.inside.words.ok.0, w.within, c.start.ensures, c.weaks.ensures, c.from.ensures, c.if-field-entry.true)

pub index-requires-then-field-entry : goal.index-requires-then-field-entry
index-requires-then-field-entry c = let w = entry_of _ _ _ _ _ c.self.view_is c.self.invariant.0 c.requires c.index.ensures in
    omega (arith, c.self.inside.words.ok.0, w.within, c.start.ensures, c.weaks.ensures, c.from.ensures, c.if-field-entry.true)

pub returns-then-field-entry : goal.returns-then-field-entry
returns-then-field-entry c =
    let w = entry_of _ _ _ _ _ c.self.view_is c.self.invariant.0 c.requires c.index.ensures in
    sym (value_read _ _ _ _ _ _ w c.if-field-entry.true
    (rw (← c.start.ensures) (rw (← c.from.ensures ∙ c.weaks.ensures) c.index-then-field-entry.ensures)))

pub returns-else-field-entry : goal.returns-else-field-entry
returns-else-field-entry c =
    let w = entry_of _ _ _ _ _ c.self.view_is c.self.invariant.0 c.requires c.index.ensures in
    sym (slice_get_past (object_in c.args.self.now c.args.place).values c.args.field (omega (arith, w.values, c.if-field-entry.false)))
