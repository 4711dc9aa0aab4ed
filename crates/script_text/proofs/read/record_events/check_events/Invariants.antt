use Rattle.std.proofs.Common.{◌≡◌, ◌+◌, ◌≤◌, length}
use Rattle.script_text.specs.EventsLeft.{fault_ahead}
use Rattle.script_text.specs.Lines.{pieces_of}
use Rattle.script_text.proofs.read.record_events.check_events.Given as goal

abbrev pub invariant-lines : goal.invariant-lines
invariant-lines l = record {
  so_far : fault_ahead l.first l.config (pieces_of l.lines) ≡ fault_ahead l.count l.config (pieces_of l.rest);
  count : l.count + length l.rest ≤ l.first + length l.lines;
}

abbrev pub decreases-lines : goal.decreases-lines
decreases-lines l = length l.rest
