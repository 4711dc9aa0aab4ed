use Rattle.std.proofs.Common.{arith}
use Rattle.object_graph.proofs.ObjectLaws.{entry_of, pointer_set}
use Rattle.object_graph.proofs.objects.Objects.set_pointer.Goals as goal

pub overflow_add-start : goal.overflow_add-start
overflow_add-start c = let w = entry_of _ _ _ _ _ c.self.view_is c.self.invariant.0 c.requires.place c.index.ensures in
    omega (arith, c.self.inside.words.ok.0, w.within, w.pointers, c.requires.field, c.start.ensures)

pub index_mut-requires : goal.index_mut-requires
index_mut-requires c = let w = entry_of _ _ _ _ _ c.self.view_is c.self.invariant.0 c.requires.place c.index.ensures in
    omega (arith, c.self.inside.words.ok.0, w.within, w.pointers, c.requires.field, c.start.ensures)

pub returns : goal.returns
returns c =
    let w = entry_of _ _ _ _ _ c.self.view_is c.self.invariant.0 c.requires.place c.index.ensures in
    rw (← c.word.ensures) (rw c.start.ensures
    (pointer_set c.self.inside.words.items c.self.inside.entries.items c.args.self.now c.args.place c.args.field c.word.result
    c.index.result.now c.self.view_is c.self.invariant.0 c.requires.place c.index.ensures w
    (omega (arith, w.pointers, c.requires.field))))
