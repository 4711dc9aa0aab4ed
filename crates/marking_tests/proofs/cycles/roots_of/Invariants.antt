use Rattle.std.proofs.Common.{◌≡◌}
use Rattle.marking_tests.specs.Samples.{LeadToObjects}
use Rattle.marking_tests.proofs.cycles.roots_of.Given as goal

abbrev pub invariant-loop-place : goal.invariant-loop-place
invariant-loop-place l = record {
  leads : LeadToObjects l.made.table l.roots.words;
  globals : l.roots.places.globals ≡ 32;
}
