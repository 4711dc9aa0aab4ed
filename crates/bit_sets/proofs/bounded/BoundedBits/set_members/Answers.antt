use Rattle.bit_sets.specs.Bits.{has}
use Rattle.bit_sets.proofs.BitUnions.{joined_nothing}
use Rattle.bit_sets.proofs.bounded.BoundedBits.set_members.Goals as goal

pub returns-in_default-clause-flags : goal.returns-in_default-clause-flags
returns-in_default-clause-flags c = λ a.
    joined_nothing (has c.args.members.now) (has c.args.self.now a) c.args.from c.args.to a c.in_default.ensures.lowest
