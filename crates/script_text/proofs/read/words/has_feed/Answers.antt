use Rattle.std.proofs.Common.{◌-◌, length, arith}
use Rattle.script_text.proofs.Parts.Splitting.{ended_by}
use Rattle.script_text.proofs.read.words.has_feed.Goals as goal

pub returns-then-text-length-eq10-clause-found : goal.returns-then-text-length-eq10-clause-found
returns-then-text-length-eq10-clause-found c told =
    ended_by c.args.text.now (length c.args.text.now - 1) (omega arith) c.if-text-length-eq10.true
