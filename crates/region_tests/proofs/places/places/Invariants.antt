use Rattle.region_tests.proofs.Ready.{IsReady}
use Rattle.region_tests.proofs.places.places.Given as goal

abbrev pub invariant-loop-mutator : goal.invariant-loop-mutator
invariant-loop-mutator g l = IsReady 2 16 4 2 l.table l.buffers
