use Rattle.std.proofs.Common.{◌≡◌, ◌+◌, ◌++◌, length, take}
use Rattle.script_text.proofs.write.bytes.put_literal.Given as goal

abbrev pub invariant-loop-index : goal.invariant-loop-index
invariant-loop-index l = record {
  room : length l.buffer ≡ length l.fn.buffer;
  put : take (l.at + l.index) l.buffer ≡ take l.at l.fn.buffer ++ take l.index l.text;
}
