use Rattle.std.proofs.Common.{◌≡◌, ◌+◌, ◌≤◌, length}
use Rattle.script_text.specs.Lines.{pieces_of}
use Rattle.script_text.specs.Events.{events_of, record_of}
use Rattle.script_text.proofs.Reading.ReadOn.{record_items, read_on}
use Rattle.script_text.proofs.read.records.parse_record.Given as goal

abbrev pub invariant-lines : goal.invariant-lines
invariant-lines l = record {
  so_far : read_on (record_items l.config) l.history (events_of l.count l.config (pieces_of l.rest)) ≡ record_of l.text;
  config : l.history.config ≡ l.config;
  bound : l.count + length l.rest ≤ 1 + length l.text;
  from : 1 ≤ l.count;
  lines : l.count + length (pieces_of l.rest) ≡ length (pieces_of l.text);
}

abbrev pub decreases-lines : goal.decreases-lines
decreases-lines l = length l.rest
