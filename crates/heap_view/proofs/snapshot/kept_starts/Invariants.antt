use Rattle.std.proofs.Common.{◌-◌}
use Rattle.heap_walk.specs.Kept.{place_above}
use Rattle.heap_walk.specs.Starts.{word_count}
use Rattle.heap_view.proofs.KeptStarts.{AreStartsTo}
use Rattle.heap_view.proofs.snapshot.kept_starts.Given as goal

abbrev pub invariant-loop-object : goal.invariant-loop-object
invariant-loop-object l = AreStartsTo l.core l.last l.items.items

abbrev pub decreases-loop-object : goal.decreases-loop-object
decreases-loop-object l = word_count l.core.table - place_above l.last
