use Rattle.marker.proofs.Reached.{wanted_as}
use Rattle.marker.proofs.marker.Marker.reach.Goals as goal

pub reach_old-requires-clause-kept : goal.reach_old-requires-clause-kept
reach_old-requires-clause-kept c = c.requires.kept c.in-Some.at c.in-Some.is cc

pub returns-then-lies_below_next-clause-marks : goal.returns-then-lies_below_next-clause-marks
returns-then-lies_below_next-clause-marks c =
    wanted_as c.args.table.now c.args.self.now c.reach_old.new.self c.in-Some.at c.args.target c.in-Some.is c.reach_old.ensures.marks
