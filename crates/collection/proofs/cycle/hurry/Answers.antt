use Rattle.std.proofs.Common.{◌≡◌, ◌+◌, ◌∙◌, ℕ, inl, inr, sym, ap, subst, arith}
use Rattle.heap_words.specs.declared.config.Config.{Config}
use Rattle.step_core.specs.Stands.{CoreState}
use Rattle.collection.specs.declared.numbers.Policy.{Policy}
use Rattle.collection.specs.Steps.{IsDue}
use Rattle.collection.proofs.Took.{chain, some_then, then_some}
use Rattle.collection.proofs.cycle.hurry.Goals as goal

pub returns-then-is_young_due-clause-collects : goal.returns-then-is_young_due-clause-collects
returns-then-is_young_due-clause-collects g c =
    chain g.W.Watch.sees 1 4 (c.args.core.now.config.regions + 5) c.args.core.now c.refine_most.new.core c.young_on.new.core
    c.args.watch.now c.refine_most.new.watch c.young_on.new.watch (omega arith) c.refine_most.ensures.collects c.young_on.ensures.collects

pub returns-then-is_young_due-clause-some : goal.returns-then-is_young_due-clause-some
returns-then-is_young_due-clause-some g c due =
    then_some g.W.Watch.sees 1 4 (c.args.core.now.config.regions + 5) c.args.core.now c.refine_most.new.core c.young_on.new.core
    c.args.watch.now c.refine_most.new.watch c.young_on.new.watch (omega arith) c.refine_most.ensures.collects c.young_on.ensures

pub returns-clause-collects : goal.returns-clause-collects
returns-clause-collects g c =
    let e = ap (λ (x : Config). x.regions) c.refine_most.ensures.collects.config in
    chain g.W.Watch.sees 1 (c.refine_most.new.core.config.regions + 4) (c.args.core.now.config.regions + 5)
    c.args.core.now c.refine_most.new.core c.cycle_on.new.core c.args.watch.now c.refine_most.new.watch c.cycle_on.new.watch
    (omega (arith, e)) c.refine_most.ensures.collects c.cycle_on.ensures.collects

pub returns-clause-some : goal.returns-clause-some
returns-clause-some g c due =
    let e = ap (λ (x : Config). x.regions) c.refine_most.ensures.collects.config in
    elim c.refine_most.ensures.some [
      | inl some ↦
          some_then g.W.Watch.sees 1 (c.refine_most.new.core.config.regions + 4) (c.args.core.now.config.regions + 5)
          c.args.core.now c.refine_most.new.core c.cycle_on.new.core c.args.watch.now c.refine_most.new.watch c.cycle_on.new.watch
          (omega (arith, e)) some c.cycle_on.ensures.collects
      | inr none ↦
          then_some g.W.Watch.sees 1 (c.refine_most.new.core.config.regions + 4) (c.args.core.now.config.regions + 5)
          c.args.core.now c.refine_most.new.core c.cycle_on.new.core c.args.watch.now c.refine_most.new.watch c.cycle_on.new.watch
          (omega (arith, e)) c.refine_most.ensures.collects (c.cycle_on.ensures.some (still none.0 none.1))
    ]
  where
    still : c.refine_most.new.core ≡ c.args.core.now → c.refine_most.new.policy ≡ c.args.policy.now
        → IsDue c.refine_most.new.core c.is_young_due.new.self.begin_at
    still core policy =
        let begin : c.is_young_due.new.self.begin_at ≡ c.args.policy.now.begin_at =
        ap (λ (p : Policy). p.begin_at) (c.is_young_due.ensures c.if-is_young_due.false) ∙ ap (λ (p : Policy). p.begin_at) policy in
        subst (λ (b : ℕ). IsDue c.refine_most.new.core b) (sym begin)
        (subst (λ (k : CoreState). IsDue k c.args.policy.now.begin_at) (sym core) due)
