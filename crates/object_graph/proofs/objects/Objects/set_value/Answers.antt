use Rattle.std.proofs.Common.{◌∙◌, arith}
use Rattle.object_graph.proofs.ObjectLaws.{entry_of, value_set}
use Rattle.object_graph.proofs.objects.Objects.set_value.Goals as goal

pub overflow_cast-start : goal.overflow_cast-start
overflow_cast-start c = let w = entry_of _ _ _ _ _ c.self.view_is c.self.invariant.0 c.requires.place c.index.ensures in
    omega (arith, c.self.inside.words.ok.0, w.within)

pub overflow_add-start : goal.overflow_add-start
overflow_add-start c = let w = entry_of _ _ _ _ _ c.self.view_is c.self.invariant.0 c.requires.place c.index.ensures in
    omega (arith, c.self.inside.words.ok.0, w.within, c.start.ensures)

pub overflow_add-start-2 : goal.overflow_add-start-2
overflow_add-start-2 c = let w = entry_of _ _ _ _ _ c.self.view_is c.self.invariant.0 c.requires.place c.index.ensures in
    omega (arith, c.self.inside.words.ok.0, w.within, c.start.ensures, c.weaks.ensures, c.from.ensures)

pub overflow_add-start-3 : goal.overflow_add-start-3
overflow_add-start-3 c = let w = entry_of _ _ _ _ _ c.self.view_is c.self.invariant.0 c.requires.place c.index.ensures in
    omega (arith, c.self.inside.words.ok.0, w.within, w.values, c.requires.field, c.start.ensures, c.weaks.ensures, c.from.ensures)

pub index_mut-requires : goal.index_mut-requires
index_mut-requires c = let w = entry_of _ _ _ _ _ c.self.view_is c.self.invariant.0 c.requires.place c.index.ensures in
    omega (arith, c.self.inside.words.ok.0, w.within, w.values, c.requires.field, c.start.ensures, c.weaks.ensures, c.from.ensures)

pub returns : goal.returns
returns c =
    let w = entry_of _ _ _ _ _ c.self.view_is c.self.invariant.0 c.requires.place c.index.ensures in
    let count = c.from.ensures ∙ c.weaks.ensures in
    rw c.start.ensures (rw count (value_set c.self.inside.words.items c.self.inside.entries.items c.args.self.now c.args.place c.args.field
    c.args.value c.index.result.now c.self.view_is c.self.invariant.0 c.requires.place c.index.ensures w
    (omega (arith, w.values, c.requires.field))))
