use Rattle.alloc_buffers.proofs.Placed.{alone_placed, alone_is}
use Rattle.alloc_buffers.proofs.buffers.AllocBuffers.allocate_alone.Goals as goal

pub push_filler-at-requires : goal.push_filler-at-requires
push_filler-at-requires c = let r = c.in_ok-region.ensures.room in record {
  known = rw c.new.ensures r.known;
  ordinary = rw c.new.ensures r.ordinary;
  positive = c.requires.ready.positive;
  room = rw c.new.ensures r.room;
}

pub returns-clause-some : goal.returns-clause-some
returns-clause-some c = alone_is c.args.table.now _ _ _ _ _ _ _ _ c.self.view_is c.new.ensures c.in_ok-region.ensures.some
    c.push_filler-at.ensures.at c.push_filler-at.ensures.pushed

pub returns-clause-placed : goal.returns-clause-placed
returns-clause-placed c = alone_placed c.args.table.now _ _ _ _ _ _ _ _ c.self.view_is c.requires.ready.stand c.requires.ready.unmoved
    c.in_ok-region.ensures.room c.new.ensures c.law.ensures.positive c.law.ensures.fitting c.requires.ready.positive
    c.push_filler-at.ensures.at c.push_filler-at.ensures.pushed
