use Rattle.std.proofs.Common.{arith}
use Rattle.marker.proofs.Logs.{none_were_taken, none_taken, one_taken}
use Rattle.marker.proofs.marker.Marker.take_logs.Goals as goal

pub loop-mutator-init : goal.loop-mutator-init
loop-mutator-init c = none_were_taken c.args.table.now c.args.self.now c.requires.stands c.requires.running

pub loop-mutator-preserved-then-len-eq0 : goal.loop-mutator-preserved-then-len-eq0
loop-mutator-preserved-then-len-eq0 c =
    none_taken c.args.table.now c.args.self.now c.loop-mutator.self c.loop-mutator.mutator c.loop-mutator.invariant
    (omega (arith, c.len.ensures.value, c.if-len-eq0.true))

pub loop-mutator-preserved : goal.loop-mutator-preserved
loop-mutator-preserved c =
    let q = c.take_log.ensures in
    one_taken c.args.table.now c.args.self.now c.loop-mutator.self c.take_log.new.self c.loop-mutator.mutator c.loop-mutator.invariant
    (omega (arith, c.loop-mutator-test.true, c.mutators-mutator-end.ensures, c.loop-mutator.invariant.len)) q.stands
    q.snapshots q.emptied q.scans q.waiting q.same q.scanned

pub returns-clause-scanned : goal.returns-clause-scanned
returns-clause-scanned c = c.loop-mutator.invariant.scanned
