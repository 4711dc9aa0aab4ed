use Rattle.std.proofs.Common.{◌≡◌, ◌+◌, ◌++◌, length, map, take}
use Rattle.script_text.specs.Faults.{shown_byte}
use Rattle.script_text.proofs.hints.put_bytes.Given as goal

abbrev pub invariant-loop-byte : goal.invariant-loop-byte
invariant-loop-byte l = record {
  put : take l.end l.buffer ≡ take l.at l.fn.buffer ++ map shown_byte (take l.byte-index l.bytes);
  end : l.end ≡ l.at + l.byte-index;
  room : length l.buffer ≡ length l.fn.buffer;
}
