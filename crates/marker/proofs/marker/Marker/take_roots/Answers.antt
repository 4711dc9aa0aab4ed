use Rattle.std.proofs.Common.{sym, subst}
use Rattle.marker.specs.Waiting.{Waiting}
use Rattle.marker.specs.Steps.{KeepsSnapshots}
use Rattle.marker.proofs.Begun.{with_waiting}
use Rattle.marker.proofs.Waits.{no_root_taken, popped_stands, popped_kept, popped_below, root_taken}
use Rattle.marker.proofs.marker.Marker.take_roots.Goals as goal

pub loop-taken-init : goal.loop-taken-init
loop-taken-init c = no_root_taken c.args.table.now c.args.self.now c.requires.stands c.requires.running

pub reach_old-requires-clause-stands : goal.reach_old-requires-clause-stands
reach_old-requires-clause-stands c =
    let p = c.loop-taken.invariant in
    popped_stands c.args.table.now c.loop-taken.self c.pop.new.self c.in-Some.at p.stands p.running c.in-Some.ensures.last

pub reach_old-requires-clause-below : goal.reach_old-requires-clause-below
reach_old-requires-clause-below c =
    let p = c.loop-taken.invariant in
    popped_below c.args.table.now c.loop-taken.self c.pop.new.self c.in-Some.at p.stands p.running c.in-Some.ensures.last

pub reach_old-requires-clause-kept : goal.reach_old-requires-clause-kept
reach_old-requires-clause-kept c =
    let p = c.loop-taken.invariant in
    popped_kept c.args.table.now c.loop-taken.self c.pop.new.self c.in-Some.at p.stands p.running c.in-Some.ensures.last

pub loop-taken-preserved : goal.loop-taken-preserved
loop-taken-preserved c =
    let p = c.loop-taken.invariant in
    let q = c.reach_old.ensures in
    root_taken c.args.table.now c.loop-taken.self c.pop.new.self c.in-Some.at p.stands p.running c.in-Some.ensures.last
    c.reach_old.new.self q.same q.scanned q.place q.logs q.waiting q.marks c.args.self.now c.loop-taken.taken p q.stands q.scans

pub returns-in_default-clause-snapshots : goal.returns-in_default-clause-snapshots
returns-in_default-clause-snapshots c =
    subst (λ (w : Waiting). KeepsSnapshots c.args.table.now c.args.self.now (with_waiting c.loop-taken.self w))
    (sym (c.pop.ensures.none c.in_default.is).1) c.loop-taken.invariant.snapshots
