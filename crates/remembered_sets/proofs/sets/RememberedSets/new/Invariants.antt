use Rattle.std.proofs.Common.{◌≡◌, replicate}
use Rattle.remembered_sets.specs.Sets.{empty_set}
use Rattle.remembered_sets.proofs.sets.RememberedSets.new.Given as goal

abbrev pub invariant-loop : goal.invariant-loop
invariant-loop l = l.sets.items ≡ replicate l.counter (empty_set l.regions 0 0)
