use Rattle.std.proofs.Common.{List, All, subst, sym}
use Rattle.heap_steps.specs.Actors.{IsStep}
use Rattle.heap_steps.specs.declared.step.Step.{Step}
use Rattle.heap_view.proofs.review.core_over.Goals as goal

pub run_to_core-requires : goal.run_to_core-requires
run_to_core-requires c = subst (λ (ss : List Step). All (IsStep c.args.config.now) ss) (sym c.as_slice.ensures.value)
    (c.in-Ok.ensures.known c.args.config.now c.requires)
