use Rattle.regions.proofs.Common.{◌-◌, ◌*◌, length, has, HasNoneBelow}
use Rattle.regions.proofs.weak_starts.WeakStarts.next.Given as goal

abbrev pub invariant-loop-region : goal.invariant-loop-region
invariant-loop-region l = HasNoneBelow (has l.self-inside.addresses) l.fn.from (l.left * l.self-inside.region_words)

abbrev pub decreases-loop-region : goal.decreases-loop-region
decreases-loop-region l = length l.self-inside.regions - l.left
