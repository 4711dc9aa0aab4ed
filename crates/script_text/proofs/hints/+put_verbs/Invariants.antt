use Rattle.std.proofs.Common.{length}
use Rattle.script_text.proofs.hints.+put_verbs.Given as goal

abbrev pub decreases-put_verbs : goal.decreases-put_verbs
decreases-put_verbs g l = length l.verbs.now
