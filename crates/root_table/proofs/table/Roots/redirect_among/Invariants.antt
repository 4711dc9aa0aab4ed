use Rattle.std.proofs.Common.{◌≡◌, ◌-◌, ◌≤◌}
use Rattle.root_table.specs.Roots.{AreRedirectedBetween}
use Rattle.root_table.proofs.table.Roots.redirect_among.Given as goal

abbrev pub decreases-places : goal.decreases-places
decreases-places l = l.past - l.place

abbrev pub invariant-places : goal.invariant-places
invariant-places l = record {
  words : AreRedirectedBetween l.from l.to l.first l.place l.initial.self.words l.self.words;
  places : l.self.places ≡ l.initial.self.places;
  low : l.first ≤ l.place;
  high : l.place ≤ l.past;
}
