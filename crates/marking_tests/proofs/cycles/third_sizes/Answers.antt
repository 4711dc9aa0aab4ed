use Rattle.std.proofs.Common.{refl, arith}
use Rattle.marking_tests.proofs.cycles.third_sizes.Goals as goal

pub returns-clause-suits : goal.returns-clause-suits
unfolding lib.Count.ones
returns-clause-suits c = record {
  regions = record { at_least = omega arith; at_most = omega arith };
  words = record { power = refl; at_least = omega arith; at_most = omega arith; in_all = omega arith };
  buffer = record { at_least = omega arith; at_most = omega arith };
  mutators = record { at_least = omega arith; at_most = omega arith };
  card = record { power = refl; at_least = omega arith; longest = omega arith; at_most = omega arith };
  globals = omega arith;
  registers = record { at_least = omega arith; at_most = omega arith };
  roots = omega arith;
}
