use Rattle.std.proofs.Common.{◌≡◌, ◌-◌, map}
use Rattle.heap_walk.specs.Starts.{word_count}
use Rattle.heap_walk.specs.Walks.{entries_at, told_between}
use Rattle.heap_view.specs.Census.{class_of}
use Rattle.heap_view.proofs.classes.kept_classes.Given as goal

abbrev pub invariant-objects : goal.invariant-objects
invariant-objects l = l.classes.items ≡ map class_of (told_between (entries_at l.core) 0 l.place)

abbrev pub decreases-objects : goal.decreases-objects
decreases-objects l = word_count l.core.table - l.place
