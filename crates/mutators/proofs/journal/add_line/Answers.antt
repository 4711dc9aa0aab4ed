use Rattle.std.proofs.Common.{arith, vec_capacity}
use Rattle.mutators.proofs.Filling.{row_added, row_room, room_kept}
use Rattle.mutators.proofs.journal.add_line.Goals as goal

pub push_reserved-requires : goal.push_reserved-requires
push_reserved-requires c =
    let v = c.index_mut.result.now in
    let room = row_room (λ s. s.items) (λ s. vec_capacity s) c.args.scripts.now.items c.args.place v c.requires.place
    c.index_mut.ensures.value c.requires.room in
    omega (arith, room, v.ok.0)

pub returns-clause-lines : goal.returns-clause-lines
returns-clause-lines c = row_added (λ s. s.items) c.args.scripts.now.items c.args.place c.index_mut.result.now c.push_reserved.new.self
    c.args.step c.requires.place c.index_mut.ensures.value c.push_reserved.ensures.items

pub returns-clause-rooms : goal.returns-clause-rooms
returns-clause-rooms c = room_kept (λ s. vec_capacity s) c.args.scripts.now.items c.args.place c.index_mut.result.now
    c.push_reserved.new.self c.requires.place c.index_mut.ensures.value c.push_reserved.ensures.capacity
