use Rattle.std.proofs.Common.{◌≡◌, ℕ, sym, ap, subst, arith}
use Rattle.collection.specs.declared.numbers.Policy.{Policy}
use Rattle.collection.specs.Steps.{IsDue}
use Rattle.collection.proofs.Took.{some_more}
use Rattle.collection.proofs.cycle.work_on.Goals as goal

pub returns-then-clearing-clause-some : goal.returns-then-clearing-clause-some
returns-then-clearing-clause-some g c due =
    some_more g.W.Watch.sees 2 4 c.args.core.now c.clear_on.new.core c.args.watch.now c.clear_on.new.watch (omega arith) c.clear_on.ensures

pub returns-then-is_young_turn-clause-some : goal.returns-then-is_young_turn-clause-some
returns-then-is_young_turn-clause-some g c due =
    some_more g.W.Watch.sees 1 4 c.args.core.now c.pause_young.new.core c.args.watch.now c.pause_young.new.watch (omega arith)
    c.pause_young.ensures

pub returns-clause-some : goal.returns-clause-some
returns-clause-some g c due =
    let same : c.is_young_turn.new.self.begin_at ≡ c.args.policy.now.begin_at =
    ap (λ (p : Policy). p.begin_at) (c.is_young_turn.ensures c.if-is_young_turn.false) in
    c.go_on.ensures.some (subst (λ (b : ℕ). IsDue c.args.core.now b) (sym same) due)
