use Rattle.root_table.specs.Roots.{AreNil}
use Rattle.root_table.proofs.table.Roots.first_named.Given as goal

abbrev pub invariant-loop-place : goal.invariant-loop-place
invariant-loop-place l = AreNil l.self.words l.from l.place
