use Rattle.std.proofs.Common.{inl, inr, arith}
use Rattle.collection.proofs.Took.{chain, some_more, some_then}
use Rattle.collection.proofs.cycle.go_on.Goals as goal

pub returns-then-marking-clause-some : goal.returns-then-marking-clause-some
returns-then-marking-clause-some g c due =
    some_more g.W.Watch.sees 3 4 c.args.core.now c.mark_on.new.core c.args.watch.now c.mark_on.new.watch (omega arith) c.mark_on.ensures

pub returns-then-begin_cycle-clause-some : goal.returns-then-begin_cycle-clause-some
returns-then-begin_cycle-clause-some g c due = elim due [
  | inl runs ↦ absurd (let e = c.marking.ensures in let f = c.if-marking.false in cc)
  | inr few ↦ some_more g.W.Watch.sees 3 4 c.args.core.now c.begin_cycle.new.core c.args.watch.now c.begin_cycle.new.watch (omega arith)
      (c.begin_cycle.ensures.some few)
]

pub returns-then-rests-clause-some : goal.returns-then-rests-clause-some
returns-then-rests-clause-some g c due = elim due [
  | inl runs ↦ absurd (let e = c.marking.ensures in let f = c.if-marking.false in cc)
  | inr few ↦ some_more g.W.Watch.sees 3 4 c.args.core.now c.begin_cycle.new.core c.args.watch.now c.begin_cycle.new.watch (omega arith)
      (c.begin_cycle.ensures.some few)
]

pub returns-clause-collects : goal.returns-clause-collects
returns-clause-collects g c =
    chain g.W.Watch.sees 3 1 4 c.args.core.now c.begin_cycle.new.core c.evacuate_some.new.core c.args.watch.now c.begin_cycle.new.watch
    c.evacuate_some.new.watch (omega arith) c.begin_cycle.ensures.collects c.evacuate_some.ensures.collects

pub returns-clause-some : goal.returns-clause-some
returns-clause-some g c due = elim due [
  | inl runs ↦ absurd (let e = c.marking.ensures in let f = c.if-marking.false in cc)
  | inr few ↦ some_then g.W.Watch.sees 3 1 4 c.args.core.now c.begin_cycle.new.core c.evacuate_some.new.core c.args.watch.now
      c.begin_cycle.new.watch c.evacuate_some.new.watch (omega arith) (c.begin_cycle.ensures.some few) c.evacuate_some.ensures.collects
]
