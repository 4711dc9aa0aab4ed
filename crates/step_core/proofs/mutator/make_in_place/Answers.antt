use Rattle.std.proofs.Common.{refl}
use Rattle.step_core.proofs.mutator.make_in_place.Goals as goal

pub returns-clause-made : goal.returns-clause-made
returns-clause-made c = (
  record { place = c.in-Ok.place; table = c.allocate.new.table; buffers = c.allocate.new.self },
  record {
    place = c.in-Ok.ensures.place;
    at = c.make.ensures.at;
    made = rw (c.header_counts.ensures.pointers, c.header_counts.ensures.weaks, c.header_counts.ensures.values) at c.make.ensures.made;
    buffers = refl;
    placed = c.in-Ok.ensures.placed;
    positive = c.law.ensures.positive;
    fitting = c.law.ensures.fitting;
  },
)
