use Rattle.std.proofs.Common.{ℕ, sym, subst}
use Rattle.collection.specs.Steps.{IsDue}
use Rattle.collection.proofs.making.look.Goals as goal

pub returns-then-due-clause-some : goal.returns-then-due-clause-some
returns-then-due-clause-some g c t due = c.collect_due.ensures.some (subst (λ (b : ℕ). IsDue c.args.core.now b) (sym c.look_on.ensures) due)
