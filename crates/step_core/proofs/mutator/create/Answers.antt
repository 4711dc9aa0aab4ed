use Rattle.std.proofs.Common.{◌∙◌, Option, ℕ, sym, ap}
use Rattle.step_core.specs.Mutators.{with_current}
use Rattle.step_core.proofs.Mutating.Creating.{current_same}
use Rattle.step_core.proofs.mutator.create.Goals as goal

pub returns-in-Some-clause-aged : goal.returns-in-Some-clause-aged
returns-in-Some-clause-aged c =
    sym (current_same c.args.ages.now c.args.buffers.now.current)
    ∙ ap (λ (now : Option ℕ). with_current c.args.ages.now c.args.buffers.now.current now) (sym c.in-Some.ensures.current)
