use Rattle.std.proofs.Common.{◌+◌, ◌≤◌, length}
use Rattle.script_text.proofs.Reading.LeftSteps.{IsReadTo}
use Rattle.script_text.proofs.read.script_steps.check_lines.Given as goal

abbrev pub invariant-lines : goal.invariant-lines
invariant-lines l = record {
  so_far : IsReadTo l.config l.number l.rest l.lines;
  number : l.number + length l.rest ≤ 2 + length l.lines;
}

abbrev pub decreases-lines : goal.decreases-lines
decreases-lines l = length l.rest
