use Rattle.marker.proofs.Marking.{snapshots_trans}
use Rattle.marker.proofs.FollowedPairs.{object_within, grows_on, work_on, held_later, none_grey}
use Rattle.marker.proofs.marker.Marker.follow_object.Goals as goal

pub get-requires : goal.get-requires
get-requires c = object_within c.args.table.now c.args.self.now c.args.object c.law.ensures c.requires.stands c.requires.there

pub returns-then-get-clause-none_left : goal.returns-then-get-clause-none_left
returns-then-get-clause-none_left c =
    let q = c.scan_objects.ensures in
    none_grey c.args.table.now c.reach_held.new.self c.scan_objects.new.self c.scan_objects.result c.law.ensures q.stands q.count
    q.none_left

pub returns-then-get-clause-held : goal.returns-then-get-clause-held
returns-then-get-clause-held c = λ _.
    held_later c.args.table.now c.args.self.now c.reach_held.new.self c.scan_objects.new.self c.args.object c.reach_held.ensures.held
    c.scan_objects.ensures.grows.marked

pub returns-then-get-clause-work : goal.returns-then-get-clause-work
returns-then-get-clause-work c =
    let r = c.reach_held.ensures in
    let q = c.scan_objects.ensures in
    work_on c.args.self.now c.reach_held.new.self c.scan_objects.new.self c.scan_objects.result r.scanned r.scans q.count q.scans

pub returns-then-get-clause-grows : goal.returns-then-get-clause-grows
returns-then-get-clause-grows c =
    let r = c.reach_held.ensures in
    grows_on c.args.self.now c.reach_held.new.self c.scan_objects.new.self r.scanned r.marked c.scan_objects.ensures.grows

pub returns-then-get-clause-snapshots : goal.returns-then-get-clause-snapshots
returns-then-get-clause-snapshots c =
    let r = c.reach_held.ensures in
    snapshots_trans c.args.table.now c.args.self.now c.reach_held.new.self c.scan_objects.new.self r.same r.snapshots
    c.scan_objects.ensures.snapshots

pub returns-else-get-clause-held : goal.returns-else-get-clause-held
returns-else-get-clause-held c = λ marked. absurd (let no = c.if-get.false in let is = c.get.ensures in cc)
