use Rattle.std.proofs.Common.{inl, inr, true, false}
use Rattle.g1heap_c.proofs.Watching.{shrinks_counted}
use Rattle.g1heap_c.proofs.giving.shrink_noted.Goals as goal

pub returns : goal.returns
returns c = elim c.shrink_in-answer.ensures [
  | inl w ↦ inl (shrinks_counted true _ _ _ _ _ w)
  | inr w ↦ inr (shrinks_counted false _ _ _ _ _ w)
]
