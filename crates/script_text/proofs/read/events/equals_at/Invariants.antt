use Rattle.std.proofs.Common.{length, ◌-◌, ◌≤◌, map}
use Rattle.script_text.proofs.Reading.Parting.{NoneBefore}
use Rattle.script_text.proofs.read.events.equals_at.Given as goal

abbrev pub invariant-loop-at : goal.invariant-loop-at
invariant-loop-at l = record {
  within : l.at ≤ length l.words;
  before : NoneBefore (map (λ w. w.now) l.words) l.at;
}

abbrev pub decreases-loop-at : goal.decreases-loop-at
decreases-loop-at l = length l.words - l.at
