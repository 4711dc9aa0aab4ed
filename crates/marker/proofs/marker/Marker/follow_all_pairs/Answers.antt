use Rattle.marker.proofs.FollowedPairs.{passing_first, passing_on, passing_work}
use Rattle.marker.proofs.marker.Marker.follow_all_pairs.Goals as goal

pub passes-init : goal.passes-init
passes-init c =
    passing_first c.args.table.now c.args.self.now c.requires.stands c.requires.running c.requires.none_left

pub passes-preserved : goal.passes-preserved
passes-preserved c =
    let q = c.follow_pairs-more.ensures in
    passing_on c.args.table.now c.args.self.now c.passes.self c.follow_pairs-more.new.self c.passes.more c.follow_pairs-more.result
    c.passes-test.true c.passes.invariant q.stands q.snapshots q.same q.logs q.waiting q.grows q.work q.none_left q.held q.over

pub returns-clause-work : goal.returns-clause-work
returns-clause-work c = passing_work c.args.table.now c.args.self.now c.passes.self c.passes.more c.passes.invariant

pub returns-clause-pairs : goal.returns-clause-pairs
returns-clause-pairs c = c.passes.invariant.over c.passes-test.false
