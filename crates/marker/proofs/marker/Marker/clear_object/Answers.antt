use Rattle.std.proofs.Common.{◌∙◌, refl, ap, arith}
use Rattle.heap_model.specs.Weak.{cleared_word}
use Rattle.marker.specs.Views.{ended_marking_of, with_roles_exchanged}
use Rattle.marker.proofs.Slots.{partly_first, partly_room, partly_next, partly_last, partly_marks, same_marking}
use Rattle.marker.proofs.marker.Marker.clear_object.Goals as goal

pub loop-slot-init : goal.loop-slot-init
loop-slot-init c = partly_first (ended_marking_of c.args.table.now c.args.self.now) c.args.table.now c.args.object c.requires.object

pub get_weak-requires : goal.get_weak-requires
get_weak-requires c =
    let room = partly_room _ _ _ _ _ c.loop-slot.invariant in
    omega (arith, room, c.weak_count-count.ensures, c.loop-slot-test.true)

pub lasting-target-requires : goal.lasting-target-requires
lasting-target-requires c = partly_marks _ _ _ _ _ _ _ c.loop-slot.invariant c.requires.marks

pub set_weak-requires : goal.set_weak-requires
set_weak-requires c =
    let room = partly_room _ _ _ _ _ c.loop-slot.invariant in
    omega (arith, room, c.weak_count-count.ensures, c.loop-slot-test.true)

pub loop-slot-preserved : goal.loop-slot-preserved
loop-slot-preserved c =
    let p = c.loop-slot.invariant in
    let same = same_marking c.args.table.now c.loop-slot.table (with_roles_exchanged c.args.self.now) p.writes.size in
    let value = c.lasting-target.ensures ∙ ap (λ m. cleared_word m c.get_weak.result) same in
    rw c.set_weak.ensures (partly_next _ _ _ _ _ _ _ _ refl c.law.ensures.positive p c.get_weak.ensures value)

pub drop_held-requires : goal.drop_held-requires
drop_held-requires c = rw c.loop-slot.invariant.writes.is refl

pub returns : goal.returns
returns c = partly_last _ _ _ _ _ _ c.loop-slot.invariant (omega (arith, c.weak_count-count.ensures)) c.drop_held.ensures
