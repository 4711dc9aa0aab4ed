use Rattle.std.proofs.Common.{◌≡◌, map, take}
use Rattle.jobs.specs.Replays.{reply_in}
use Rattle.jobs.proofs.replay.first_other.Given as goal

abbrev pub invariant-loop-index : goal.invariant-loop-index
invariant-loop-index l = take l.index (map reply_in l.ran) ≡ take l.index (map reply_in l.given)
