use Rattle.std.proofs.Common.{inl, refl}
use Rattle.heap_steps.specs.declared.step.Action.TheVariants as actions
use Rattle.step_core.proofs.Cores.Filling.{new_takes}
use Rattle.step_core.proofs.Mutating.Made.{made_as}
use Rattle.step_core.proofs.heap.Core.make_at.Goals as goal

pub returns-clause-takes : goal.returns-clause-takes
returns-clause-takes c = new_takes _ _ c.args.mutator c.args.to c.args.counts _ c.made.ensures.makes

pub returns-clause-made : goal.returns-clause-made
returns-clause-made c = made_as c.args.mutator (actions.New c.args.to c.args.counts) c.args.to c.args.counts 0 _ _ (inl refl) refl
    c.made.ensures.makes.made
