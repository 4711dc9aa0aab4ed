use Rattle.std.proofs.Common.{◌≡◌, ◌+◌, ◌≤◌, length}
use Rattle.script_text.specs.Lines.{pieces_of, steps_of, script_of}
use Rattle.script_text.proofs.Reading.ReadOn.{script_items, read_on}
use Rattle.script_text.proofs.read.script.parse.Given as goal

abbrev pub invariant-lines : goal.invariant-lines
invariant-lines l = record {
  so_far : read_on (script_items l.config) l.plan (steps_of l.number l.config (pieces_of l.rest)) ≡ script_of l.text;
  config : l.plan.config ≡ l.config;
  number : l.number + length l.rest ≤ 2 + length l.text;
  from : 1 ≤ l.number;
  count : l.number + length (pieces_of l.rest) ≡ length (pieces_of l.text) + 1;
}

abbrev pub decreases-lines : goal.decreases-lines
decreases-lines l = length l.rest
