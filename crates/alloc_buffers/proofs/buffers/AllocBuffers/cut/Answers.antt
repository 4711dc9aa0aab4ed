use Rattle.regions.proofs.Common.{arith, Filler}
use Rattle.alloc_buffers.proofs.buffers.AllocBuffers.cut.Goals as goal

pub overflow_add-buffer : goal.overflow_add-buffer
overflow_add-buffer c =
    let f = c.requires.ready.stand.fillers c.args.mutator c.in-Some.buffer c.in-Some.ensures in
    let within = c.law.ensures.within c.in-Some.buffer.next (Filler c.in-Some.buffer.rest) f.filler in
    omega (arith, within, c.law.ensures.in_all, c.if-buffer-size.false)
