use Rattle.alloc_buffers.proofs.Runs.{run_stands, run_above}
use Rattle.alloc_buffers.proofs.laws.run_law.Goals as goal

pub returns-clause-stand : goal.returns-clause-stand
returns-clause-stand c = λ t b k count s shaped positive lowest st. run_stands t k count s shaped positive lowest b st

pub returns-clause-above : goal.returns-clause-above
returns-clause-above c = λ t b k count s limit shaped positive lowest above. run_above t k count s shaped positive lowest b limit above
