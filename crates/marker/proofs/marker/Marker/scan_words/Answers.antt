use Rattle.std.proofs.Common.{arith}
use Rattle.marker.proofs.Marking.{none_scanned, snapshots_trans}
use Rattle.marker.proofs.Looked.{one_looked}
use Rattle.marker.proofs.marker.Marker.scan_words.Goals as goal

pub objects-init : goal.objects-init
objects-init c = record {
  looks = record {
    objects = 0;
    scans = none_scanned c.args.table.now c.args.self.now c.requires.stands c.requires.running;
    count = omega arith;
  };
  few = omega arith;
}

pub returns-then-left-from-clause-snapshots : goal.returns-then-left-from-clause-snapshots
returns-then-left-from-clause-snapshots c =
    let p = c.objects.invariant.looks.scans in
    snapshots_trans c.args.table.now c.args.self.now c.objects.self c.look.new.self p.same p.snapshots c.look.ensures.snapshots

pub objects-preserved : goal.objects-preserved
objects-preserved c =
    let q = c.scan.ensures in
    record {
      looks = one_looked c.args.table.now c.args.self.now c.objects.self c.scan.new.self c.objects.done c.words_left-left.result
          c.in-Some.object c.objects.invariant.looks c.in-Some.ensures.grey c.in-Some.ensures.within q.stands q.snapshots q.scanned q.whole
          q.counted q.same q.logs q.waiting q.grows.marked c.words_left-left.ensures.left;
      few = omega (arith, c.if-left-from.false, c.from.ensures, c.objects-test.true);
    }
