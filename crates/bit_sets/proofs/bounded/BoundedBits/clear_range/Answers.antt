use Rattle.std.proofs.Common.{inl, inr}
use Rattle.bit_sets.proofs.Bounds.{nothing_cleared}
use Rattle.bit_sets.proofs.bounded.BoundedBits.clear_range.Goals as goal

pub returns-then-self-from-clause-flags : goal.returns-then-self-from-clause-flags
returns-then-self-from-clause-flags c = λ a.
    rw (← c.self.view_is) (nothing_cleared _ _ _ c.args.from c.args.to a c.self.invariant (inl c.if-self-from.true))

pub returns-then-to-self-clause-flags : goal.returns-then-to-self-clause-flags
returns-then-to-self-clause-flags c = λ a.
    rw (← c.self.view_is) (nothing_cleared _ _ _ c.args.from c.args.to a c.self.invariant (inr c.if-to-self.true))
