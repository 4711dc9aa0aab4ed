use Rattle.region_tests.proofs.PauseSamples.{weak_suited}
use Rattle.region_tests.proofs.pauses.pause_held.Goals as goal

pub pause-requires : goal.pause-requires
pause-requires c = rw (c.in_ok-table.ensures, c.in_ok-sets.ensures, c.new.ensures) weak_suited
