use Rattle.std.proofs.Common.{◌≡◌, ◌++◌, drop}
use Rattle.mutators.specs.Draws.{open_from, open_places, lefts_of}
use Rattle.mutators.proofs.schedule.open_places.Given as goal

abbrev pub invariant-loop-k : goal.invariant-loop-k
invariant-loop-k l = l.unfinished.items ++ open_from l.k (drop l.k (lefts_of l.journal)) ≡ open_places (lefts_of l.journal)
