use Rattle.std.proofs.Common.{arith}
use Rattle.object_graph.proofs.ObjectLaws.{entry_of, weak_set}
use Rattle.object_graph.proofs.objects.Objects.set_weak.Goals as goal

pub overflow_cast-entry : goal.overflow_cast-entry
overflow_cast-entry c = let w = entry_of _ _ _ _ _ c.self.view_is c.self.invariant.0 c.requires.place c.index.ensures in
    omega (arith, c.self.inside.words.ok.0, w.within)

pub overflow_add-start : goal.overflow_add-start
overflow_add-start c = let w = entry_of _ _ _ _ _ c.self.view_is c.self.invariant.0 c.requires.place c.index.ensures in
    omega (arith, c.self.inside.words.ok.0, w.within, c.start.ensures)

pub overflow_add-start-2 : goal.overflow_add-start-2
overflow_add-start-2 c = let w = entry_of _ _ _ _ _ c.self.view_is c.self.invariant.0 c.requires.place c.index.ensures in
    omega (arith, c.self.inside.words.ok.0, w.within, w.weaks, c.requires.slot, c.start.ensures)

pub index_mut-requires : goal.index_mut-requires
index_mut-requires c = let w = entry_of _ _ _ _ _ c.self.view_is c.self.invariant.0 c.requires.place c.index.ensures in
    omega (arith, c.self.inside.words.ok.0, w.within, w.weaks, c.requires.slot, c.start.ensures)

pub returns : goal.returns
returns c =
    let w = entry_of _ _ _ _ _ c.self.view_is c.self.invariant.0 c.requires.place c.index.ensures in
    rw (← c.word.ensures) (rw c.start.ensures
    (weak_set c.self.inside.words.items c.self.inside.entries.items c.args.self.now c.args.place c.args.slot c.word.result
    c.index.result.now c.self.view_is c.self.invariant.0 c.requires.place c.index.ensures w (omega (arith, w.weaks, c.requires.slot))))
