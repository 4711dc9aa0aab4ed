use Rattle.alloc_buffers.proofs.Placed.{fresh_is}
use Rattle.alloc_buffers.proofs.placement.room.Goals as goal

pub returns-clause-room : goal.returns-clause-room
returns-clause-room c = let e = c.in_ok-region.ensures in
    fresh_is c.args.table.now _ c.in_ok-region.region _ c.args.words e.lowest e.taken c.requires.small c.number.ensures
