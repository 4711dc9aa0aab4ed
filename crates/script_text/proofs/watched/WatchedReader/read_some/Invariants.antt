use Rattle.std.proofs.Common.{◌≡◌, length}
use Rattle.std.specs.Io.KnownBytes.{Keeps}
use Rattle.script_text.proofs.watched.WatchedReader.read_some.Given as goal

abbrev pub invariant-loop : goal.invariant-loop
invariant-loop g l = record {
  keeps : Keeps l.fn.self.left (g.R.Read.remaining l.self-inside.reader);
  refused : l.self-inside.refused ≡ l.fn.self.refused;
  room : length l.buffer ≡ length l.fn.buffer;
}
