use Rattle.std.proofs.Common.{◌∙◌, arith}
use Rattle.marker.proofs.FollowedPairs.{follows_none, follows_more, follows_all}
use Rattle.marker.proofs.marker.Marker.reach_held.Goals as goal

pub loop-slot-init : goal.loop-slot-init
loop-slot-init c = follows_none c.args.table.now c.args.self.now c.args.object c.requires.stands

pub reach_slot-requires-clause-running : goal.reach_slot-requires-clause-running
reach_slot-requires-clause-running c = c.loop-slot.invariant.same.running ∙ c.requires.running

pub reach_slot-requires-clause-marked : goal.reach_slot-requires-clause-marked
reach_slot-requires-clause-marked c = c.loop-slot.invariant.marked c.args.object c.requires.marked

pub loop-slot-preserved : goal.loop-slot-preserved
loop-slot-preserved c =
    let q = c.reach_slot.ensures in
    follows_more c.args.table.now c.args.self.now c.loop-slot.self c.reach_slot.new.self c.args.object c.loop-slot.slot
    c.loop-slot.invariant q.stands q.snapshots q.held q.marked q.same q.scanned q.scans q.logs q.waiting

pub returns-clause-held : goal.returns-clause-held
returns-clause-held c =
    follows_all c.args.table.now c.args.self.now c.loop-slot.self c.args.object c.loop-slot.slot
    (omega (arith, c.loop-slot-test.false, c.held_count-slot-end.ensures)) c.loop-slot.invariant
