use Rattle.std.proofs.Common.{◌+◌, ◌∙◌, ℕ, ap, arith}
use Rattle.marker.proofs.Marking.{none_scanned}
use Rattle.marker.proofs.FollowedPairs.{pass_first, pass_object, pass_small, pass_next, pass_last, pass_work, pass_more, pass_over}
use Rattle.marker.proofs.marker.Marker.follow_pairs.Goals as goal

pub loop-left-init : goal.loop-left-init
loop-left-init c =
    pass_first c.args.table.now c.args.self.now c.new.result c.next_with_weaks-left.result c.new.ensures
    (none_scanned c.args.table.now c.args.self.now c.requires.stands c.requires.running) c.requires.none_left c.next_with_weaks-left.ensures

pub overflow_add-word : goal.overflow_add-word
overflow_add-word c =
    let small = pass_small c.args.table.now c.args.self.now c.loop-left.self c.loop-left.left c.in-Some.object c.in-Some.is
    c.loop-left.invariant c.law.ensures in
    omega (arith, small, c.word.ensures)

pub follow_object-requires-clause-there : goal.follow_object-requires-clause-there
follow_object-requires-clause-there c =
    pass_object c.args.table.now c.args.self.now c.loop-left.self c.loop-left.left c.in-Some.object c.in-Some.is c.loop-left.invariant

pub loop-left-preserved : goal.loop-left-preserved
loop-left-preserved c =
    let q = c.follow_object.ensures in
    pass_next c.args.table.now c.args.self.now c.loop-left.self c.loop-left.left c.in-Some.object c.in-Some.is c.loop-left.invariant
    c.follow_object.new.self c.new-behind.result c.next_with_weaks-left-in-Some.result
    (c.new-behind.ensures ∙ ap (λ (n : ℕ). n + 1) c.word.ensures) q.held q.none_left q.stands q.snapshots q.same q.logs q.waiting q.grows
    q.work c.next_with_weaks-left-in-Some.ensures

pub returns-clause-held : goal.returns-clause-held
returns-clause-held c =
    pass_last c.args.table.now c.args.self.now c.loop-left.self c.loop-left.left c.in_default.is c.loop-left.invariant

pub returns-clause-work : goal.returns-clause-work
returns-clause-work c = pass_work c.args.table.now c.args.self.now c.loop-left.self c.loop-left.left c.loop-left.invariant

pub returns-clause-more : goal.returns-clause-more
returns-clause-more c =
    pass_more c.args.table.now c.args.self.now c.loop-left.self c.loop-left.left c.loop-left.invariant c.requires.stands
    c.requires.running c.since-before.result c.since.result c.since-before.ensures c.since.ensures

pub returns-clause-over : goal.returns-clause-over
returns-clause-over c =
    pass_over c.args.table.now c.args.self.now c.loop-left.self c.loop-left.left c.loop-left.invariant c.requires.stands
    c.requires.running c.since-before.result c.since.result c.since-before.ensures c.since.ensures
