use Rattle.std.proofs.Common.{inl, inr}
use Rattle.collection.proofs.cycle.mark_or_begin.Goals as goal

pub returns-else-marking-clause-some : goal.returns-else-marking-clause-some
returns-else-marking-clause-some g c due = elim due [
  | inl runs ↦ absurd (let e = c.marking.ensures in let f = c.if-marking.false in cc)
  | inr few ↦ c.begin_cycle.ensures.some few
]
