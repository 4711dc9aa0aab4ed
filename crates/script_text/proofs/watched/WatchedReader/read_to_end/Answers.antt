use Rattle.std.proofs.Common.{refl}
use Rattle.std.specs.Io.{appended_bytes}
use Rattle.script_text.proofs.watched.WatchedReader.read_to_end.Goals as goal

pub returns-then-eq-clause-fails : goal.returns-then-eq-clause-fails
returns-then-eq-clause-fails g c =
    rw (← c.self.view_is) (appended_bytes c.args.text.now.items c.read_to_end.new.buf.items, (c.in-Err.ensures.none_lost, refl))

pub returns-else-eq-clause-fails : goal.returns-else-eq-clause-fails
returns-else-eq-clause-fails g c =
    rw (← c.self.view_is) ((appended_bytes c.args.text.now.items c.read_to_end.new.buf.items, c.in-Err.ensures.none_lost), refl)
