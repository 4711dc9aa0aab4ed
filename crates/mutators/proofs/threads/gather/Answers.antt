use Rattle.std.proofs.Common.{ℕ, sym, subst}
use Rattle.heap_steps.specs.Actors.{StepList}
use Rattle.mutators.specs.Interleavings.{IsOf}
use Rattle.mutators.proofs.threads.gather.Goals as goal

pub finish-requires : goal.finish-requires
finish-requires g c =
    subst (λ (x : StepList × ℕ × ℕ). IsOf x.0 x.1 x.2 c.close-journal.result.0)
    (λ i. (sym c.requires.plan i, sym c.requires.cast.1 i, sym c.requires.cast.2 i)) c.close-journal.ensures.plan
