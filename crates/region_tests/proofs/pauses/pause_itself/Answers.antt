use Rattle.region_tests.proofs.PauseSamples.{itself_suited}
use Rattle.region_tests.proofs.pauses.pause_itself.Goals as goal

pub pause-requires : goal.pause-requires
pause-requires c = rw (c.in_ok-table.ensures, c.in_ok-sets.ensures, c.new-2.ensures) itself_suited
