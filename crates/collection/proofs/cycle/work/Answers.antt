use Rattle.std.proofs.Common.{◌≡◌, ℕ, inl, inr, sym, ap, subst, arith}
use Rattle.step_core.specs.Stands.{CoreState}
use Rattle.collection.specs.declared.numbers.Policy.{Policy}
use Rattle.collection.specs.Steps.{IsDue}
use Rattle.collection.proofs.Took.{chain, some_more, some_then, then_some}
use Rattle.collection.proofs.cycle.work.Goals as goal

pub returns-then-refine_most-clause-some : goal.returns-then-refine_most-clause-some
returns-then-refine_most-clause-some g c due =
    some_more g.W.Watch.sees 1 5 c.args.core.now c.refine_most.new.core c.args.watch.now c.refine_most.new.watch (omega arith)
    (c.refine_most.ensures.enough c.if-refine_most.true)

pub returns-clause-collects : goal.returns-clause-collects
returns-clause-collects g c =
    chain g.W.Watch.sees 1 4 5 c.args.core.now c.refine_most.new.core c.work_on-last.new.core c.args.watch.now c.refine_most.new.watch
    c.work_on-last.new.watch (omega arith) c.refine_most.ensures.collects c.work_on-last.ensures.collects

pub returns-clause-some : goal.returns-clause-some
returns-clause-some g c due = elim c.refine_most.ensures.some [
  | inl some ↦
      some_then g.W.Watch.sees 1 4 5 c.args.core.now c.refine_most.new.core c.work_on-last.new.core c.args.watch.now
      c.refine_most.new.watch c.work_on-last.new.watch (omega arith) some c.work_on-last.ensures.collects
  | inr none ↦
      then_some g.W.Watch.sees 1 4 5 c.args.core.now c.refine_most.new.core c.work_on-last.new.core c.args.watch.now
      c.refine_most.new.watch c.work_on-last.new.watch (omega arith) c.refine_most.ensures.collects
      (c.work_on-last.ensures.some (still none.0 none.1))
]
  where
    still : c.refine_most.new.core ≡ c.args.core.now → c.refine_most.new.policy ≡ c.args.policy.now
        → IsDue c.refine_most.new.core c.refine_most.new.policy.begin_at
    still core policy =
        subst (λ (b : ℕ). IsDue c.refine_most.new.core b) (sym (ap (λ (p : Policy). p.begin_at) policy))
        (subst (λ (k : CoreState). IsDue k c.args.policy.now.begin_at) (sym core) due)
