use Rattle.std.proofs.Common.{sym}
use Rattle.cards.proofs.Flagged.{length_flags}
use Rattle.cards.proofs.flags.Flags.len.Goals as goal

pub returns : goal.returns
returns c = sym (length_flags c.self.inside.items.items _ c.self.inside.count c.self.invariant.0 c.self.view_is)
