use Rattle.marker.proofs.Logs.{drained_stands, drained_kept, drained_keeps}
use Rattle.marker.proofs.marker.Marker.take_log.Goals as goal

pub reach_all-requires-clause-stands : goal.reach_all-requires-clause-stands
reach_all-requires-clause-stands c = drained_stands c.args.table.now c.args.self.now c.args.mutator c.drain-log.new.self c.requires.stands
    c.requires.running c.drain-log.ensures.emptied

pub reach_all-requires-clause-kept : goal.reach_all-requires-clause-kept
reach_all-requires-clause-kept c = λ a l.
    drained_kept c.args.table.now c.args.self.now c.args.mutator c.drain-log.new.self c.drain-log.result a c.requires.stands
    c.requires.running c.drain-log.ensures.all l

pub returns-clause-snapshots : goal.returns-clause-snapshots
returns-clause-snapshots c =
    let q = c.reach_all.ensures in
    drained_keeps c.args.table.now c.args.self.now c.reach_all.new.self c.args.mutator c.drain-log.new.self c.drain-log.result
    c.requires.stands c.requires.running c.drain-log.ensures.emptied
    c.drain-log.ensures.all q.same q.scanned q.place q.logs q.waiting q.marks
