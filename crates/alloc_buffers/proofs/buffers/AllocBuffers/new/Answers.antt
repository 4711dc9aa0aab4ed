use Rattle.alloc_buffers.proofs.Placed.{closed_stand}
use Rattle.alloc_buffers.proofs.buffers.AllocBuffers.new.Goals as goal

pub returns-clause-stand : goal.returns-clause-stand
returns-clause-stand c = λ t. rw c.in_ok-open_buffers.ensures (closed_stand t c.args.config.now.buffer c.args.config.now.mutators)
