use Rattle.std.proofs.Common.{◌∙◌, arith}
use Rattle.regions.proofs.Tiles.Released.{filler_short}
use Rattle.alloc_buffers.proofs.Placed.{inside_placed}
use Rattle.alloc_buffers.proofs.buffers.AllocBuffers.allocate_inside.Goals as goal

pub returns-clause-placed : goal.returns-clause-placed
returns-clause-placed c = inside_placed _ _ _ _ _ _ _ _ _ _ _ c.self.view_is c.requires.ready.stand c.requires.ready.unmoved
    c.law.ensures.positive c.law.ensures.fitting c.requires.opened c.requires.ready.positive c.requires.room c.new.ensures
    c.split_filler-next.ensures.split (c.word.ensures ∙ c.split_filler-next.ensures.rest) c.put.ensures c.new-2.ensures

pub split_filler-next-requires-clause-small : goal.split_filler-next-requires-clause-small
split_filler-next-requires-clause-small c =
    let f = c.requires.ready.stand.fillers c.args.mutator c.args.buffer c.requires.opened in
    let short = filler_short c.args.table.now c.args.buffer.next c.args.buffer.rest c.law.ensures.positive c.law.ensures.fitting f.filler in
    omega (arith, short, c.law.ensures.small)
