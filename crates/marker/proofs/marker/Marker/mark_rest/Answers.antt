use Rattle.marker.proofs.Marking.{snapshots_trans}
use Rattle.marker.proofs.FollowedPairs.{none_grey, bare_followed, work_then}
use Rattle.marker.proofs.marker.Marker.mark_rest.Goals as goal

pub follow_all_pairs-requires-clause-none_left : goal.follow_all_pairs-requires-clause-none_left
follow_all_pairs-requires-clause-none_left c =
    let q = c.scan_objects.ensures in
    none_grey c.args.table.now c.args.self.now c.scan_objects.new.self c.scan_objects.result c.law.ensures q.stands q.count q.none_left

pub returns-else-may_have_pairs-clause-none_left : goal.returns-else-may_have_pairs-clause-none_left
returns-else-may_have_pairs-clause-none_left c =
    let q = c.scan_objects.ensures in
    none_grey c.args.table.now c.args.self.now c.scan_objects.new.self c.scan_objects.result c.law.ensures q.stands q.count q.none_left

pub returns-then-may_have_pairs-clause-work : goal.returns-then-may_have_pairs-clause-work
returns-then-may_have_pairs-clause-work c =
    let q = c.scan_objects.ensures in
    work_then c.args.self.now c.scan_objects.new.self c.follow_all_pairs.new.self c.scan_objects.result q.count q.scans
    c.follow_all_pairs.ensures.work

pub returns-then-may_have_pairs-clause-snapshots : goal.returns-then-may_have_pairs-clause-snapshots
returns-then-may_have_pairs-clause-snapshots c =
    snapshots_trans c.args.table.now c.args.self.now c.scan_objects.new.self c.follow_all_pairs.new.self c.scan_objects.ensures.same
    c.scan_objects.ensures.snapshots c.follow_all_pairs.ensures.snapshots

pub returns-else-may_have_pairs-clause-pairs : goal.returns-else-may_have_pairs-clause-pairs
returns-else-may_have_pairs-clause-pairs c =
    bare_followed c.args.table.now c.scan_objects.new.self (c.may_have_pairs.ensures c.if-may_have_pairs.false)
