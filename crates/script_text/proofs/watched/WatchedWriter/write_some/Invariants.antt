use Rattle.std.proofs.Common.{◌≡◌}
use Rattle.std.specs.Io.KnownBytes.{Keeps}
use Rattle.script_text.proofs.watched.WatchedWriter.write_some.Given as goal

abbrev pub invariant-loop : goal.invariant-loop
invariant-loop g l = record {
  keeps : Keeps l.fn.self.held (g.W.Write.contents l.self-inside.writer);
  refused : l.self-inside.refused ≡ l.fn.self.refused;
}
