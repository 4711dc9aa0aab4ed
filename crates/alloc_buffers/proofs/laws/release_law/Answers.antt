use Rattle.alloc_buffers.proofs.Above.{stand_released, above_released}
use Rattle.alloc_buffers.proofs.laws.release_law.Goals as goal

pub returns-clause-stand : goal.returns-clause-stand
returns-clause-stand c = λ t b limit k shaped stand above known o full other. stand_released t b limit k shaped stand above known o full
    other

pub returns-clause-above : goal.returns-clause-above
returns-clause-above c = λ t b limit limit' k shaped stand above known o full others here. above_released t b limit limit' k shaped above
    known o others here
