use Rattle.std.proofs.Common.{◌≡◌}
use Rattle.root_table.specs.Roots.{row_start, AreRedirectedBetween}
use Rattle.root_table.proofs.table.Roots.redirect.Given as goal

abbrev pub invariant-loop-row : goal.invariant-loop-row
invariant-loop-row l = record {
  words : AreRedirectedBetween l.from l.to 0 (row_start l.fn.self.places l.row) l.fn.self.words l.self.words;
  places : l.self.places ≡ l.fn.self.places;
}
