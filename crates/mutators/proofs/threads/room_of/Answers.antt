use Rattle.std.proofs.Common.{rules}
use Rattle.mutators.proofs.Places.{pushes, learns}
use Rattle.mutators.proofs.threads.room_of.Goals as goal

pub push_as-requires-clause-rule : goal.push_as-requires-clause-rule
push_as-requires-clause-rule g c = (pushes _ _ _ _ _ (search rules), learns _ _ _)
