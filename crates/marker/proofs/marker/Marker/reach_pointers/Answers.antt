use Rattle.std.proofs.Common.{◌∙◌, ap, arith}
use Rattle.std.proofs.Common.{Some}
use Rattle.regions.specs.Table.{pointers_at}
use Rattle.marker.proofs.Reached.{span_more}
use Rattle.marker.proofs.Scanned.{target_kept}
use Rattle.marker.proofs.marker.Marker.reach_pointers.Goals as goal

pub reach-requires-clause-kept : goal.reach-requires-clause-kept
reach-requires-clause-kept c = λ a e _.
    let p = c.loop-field.invariant.reached in
    target_kept c.args.table.now c.loop-field.self c.args.object c.loop-field.field a
    (p.stands.follows (p.same.running ∙ c.requires.running)) (p.marks.stays c.args.object c.requires.marked)
    (c.get_ptr-target.ensures ∙ ap Some e)

pub loop-field-preserved : goal.loop-field-preserved
loop-field-preserved c =
    let q = c.reach.ensures in
    record {
      reached = span_more c.args.table.now (pointers_at c.args.table.now c.args.object) c.args.from c.loop-field.field
          c.get_ptr-target.result c.args.self.now c.loop-field.self c.reach.new.self c.loop-field.invariant.low c.get_ptr-target.ensures
          c.loop-field.invariant.reached (record {
            stands = q.stands;
            marks = q.marks;
            same = q.same;
            scanned = q.scanned;
            place = q.place;
            scans = q.scans;
            logs = q.logs;
            waiting = q.waiting;
          });
      low = omega (arith, c.loop-field.invariant.low);
    }
