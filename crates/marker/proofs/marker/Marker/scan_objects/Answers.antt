use Rattle.marker.proofs.Marking.{none_scanned, one_scanned}
use Rattle.marker.proofs.marker.Marker.scan_objects.Goals as goal

pub loop-done-init : goal.loop-done-init
loop-done-init c = none_scanned c.args.table.now c.args.self.now c.requires.stands c.requires.running

pub loop-done-preserved : goal.loop-done-preserved
loop-done-preserved c =
    let q = c.scan.ensures in
    one_scanned c.args.table.now c.args.self.now c.loop-done.self c.scan.new.self c.loop-done.done c.in-Some.object c.loop-done.invariant
    c.in-Some.ensures.grey c.in-Some.ensures.within q.stands q.snapshots q.scanned q.counted q.same q.logs q.waiting q.grows.marked

pub returns-in_default-clause-grows : goal.returns-in_default-clause-grows
returns-in_default-clause-grows c = c.loop-done.invariant.grows

pub returns-clause-grows : goal.returns-clause-grows
returns-clause-grows c = c.loop-done.invariant.grows
