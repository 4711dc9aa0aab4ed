use Rattle.std.proofs.Common.{◌≡◌, ◌-◌, ℕ, arith, subst}
use Rattle.regions.specs.Table.{pointers_at}
use Rattle.marker.specs.Roots.{IsInSpan}
use Rattle.marker.specs.Steps.{MarksWanted}
use Rattle.marker.proofs.Entered.{scan_keeps}
use Rattle.marker.proofs.marker.Marker.scan.Goals as goal

pub returns-clause-snapshots : goal.returns-clause-snapshots
returns-clause-snapshots c =
    let e = c.enter.ensures in
    let q = c.reach_pointers.ensures in
    let from : c.saturating_sub-done.result ≡ c.args.self.now.grey.looked - 1 =
    omega (arith, c.saturating_sub-done.ensures, c.looked.ensures) in
    scan_keeps c.args.table.now c.args.self.now c.enter.new.self c.reach_pointers.new.self c.args.object c.pointer_count-count.result
    c.requires.stands c.requires.running c.requires.grey c.requires.held
    (record {
      stands = e.stands;
      next = e.next;
      whole = e.whole;
      scanned = e.scanned;
      same = e.same;
      logs = e.logs;
      waiting = e.waiting;
    })
    (record {
      stands = q.stands;
      marks = subst (λ (k : ℕ). MarksWanted c.args.table.now
          (IsInSpan (pointers_at c.args.table.now c.args.object) k c.pointer_count-count.result) c.enter.new.self
          c.reach_pointers.new.self) from q.marks;
      same = q.same;
      scanned = q.scanned;
      place = q.place;
      scans = q.scans;
      logs = q.logs;
      waiting = q.waiting;
    })
    (omega (arith, c.pointer_count-count.ensures))
