use Rattle.root_table.specs.Roots.{row_start, AreNil}
use Rattle.root_table.proofs.table.Roots.next_in_rows.Given as goal

abbrev pub invariant-loop-row : goal.invariant-loop-row
invariant-loop-row l = AreNil l.self.words l.from (row_start l.self.places l.row)
