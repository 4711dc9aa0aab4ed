use Rattle.std.proofs.Common.{◌-◌, length}
use Rattle.marker.proofs.Waits.{IsCopied}
use Rattle.marker.proofs.waiting.WaitingRoots.copy.Given as goal

abbrev pub invariant-loop-place : goal.invariant-loop-place
invariant-loop-place l = IsCopied l.roots.words l.from l.fn.self.room l.self

abbrev pub decreases-loop-place : goal.decreases-loop-place
decreases-loop-place l = length l.roots.words - l.from
