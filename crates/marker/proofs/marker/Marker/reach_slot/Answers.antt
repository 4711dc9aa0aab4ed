use Rattle.std.proofs.Common.{◌∙◌, Some, ap}
use Rattle.marker.proofs.FollowedPairs.{key_there, held_kept, held_keeps, slot_followed, slot_waits, key_of}
use Rattle.marker.proofs.marker.Marker.reach_slot.Goals as goal

pub get_weak-key-requires : goal.get_weak-key-requires
get_weak-key-requires c = key_there c.args.table.now c.args.object c.args.slot c.law.ensures c.requires.within

pub reach-requires-clause-kept : goal.reach-requires-clause-kept
reach-requires-clause-kept c = λ a e _.
    let k = key_of c.args.self.now.bitmaps.next c.get_weak-key.result (c.is_marked_key.ensures.0 c.if-is_marked_key.true) in
    held_kept c.args.table.now c.args.self.now c.args.object c.args.slot k.0 c.get_held.result c.requires.stands c.requires.running
    c.requires.marked k.2 (c.get_weak-key.ensures ∙ ap Some k.1) c.get_held.ensures a e

pub returns-then-is_marked_key-clause-snapshots : goal.returns-then-is_marked_key-clause-snapshots
returns-then-is_marked_key-clause-snapshots c =
    let q = c.reach.ensures in
    let k = key_of c.args.self.now.bitmaps.next c.get_weak-key.result (c.is_marked_key.ensures.0 c.if-is_marked_key.true) in
    held_keeps c.args.table.now c.args.self.now c.args.object c.args.slot k.0 c.get_held.result c.requires.stands c.requires.running
    c.requires.marked k.2 (c.get_weak-key.ensures ∙ ap Some k.1) c.get_held.ensures c.reach.new.self q.stands q.marks q.same q.scanned
    q.place q.logs q.waiting

pub returns-then-is_marked_key-clause-held : goal.returns-then-is_marked_key-clause-held
returns-then-is_marked_key-clause-held c =
    slot_followed c.args.table.now c.args.self.now c.reach.new.self c.args.object c.args.slot c.get_held.result c.get_held.ensures
    c.reach.ensures.marks

pub returns-else-is_marked_key-clause-held : goal.returns-else-is_marked_key-clause-held
returns-else-is_marked_key-clause-held c =
    slot_waits c.args.table.now c.args.self.now c.args.self.now c.args.object c.args.slot c.get_weak-key.result c.get_weak-key.ensures
    (λ yes. absurd (let is = c.is_marked_key.ensures.1 yes in let no = c.if-is_marked_key.false in cc))
