use Rattle.root_table.specs.Roots.{HoldNowhere}
use Rattle.root_table.proofs.table.first_holder.Given as goal

abbrev pub invariant-loop-index : goal.invariant-loop-index
invariant-loop-index l = HoldNowhere l.words l.at l.from l.index
