use Rattle.std.proofs.Common.{◌∙◌, Some, sym, ap, arith}
use Rattle.marker.proofs.Views.{same_kept, kept_within}
use Rattle.marker.proofs.Logs.{contained, early_more, early_marked, all_marks}
use Rattle.marker.proofs.marker.Marker.reach_all.Goals as goal

pub get-requires-in-loop-place : goal.get-requires-in-loop-place
get-requires-in-loop-place c =
    let kept = same_kept c.args.table.now c.args.self.now c.loop-place.self c.new-at.result c.loop-place.invariant.same
    (c.requires.kept c.new-at.result (contained c.args.log.now c.loop-place.place c.new-at.result
    (c.get.ensures ∙ ap Some (sym c.new-at.ensures)))) in
    omega (
      arith,
      kept_within c.args.table.now c.loop-place.self c.new-at.result c.law.ensures kept,
      c.loop-place.invariant.stands.next.each_word,
    )

pub reach-requires-clause-kept : goal.reach-requires-clause-kept
reach-requires-clause-kept c = λ a e _.
    same_kept c.args.table.now c.args.self.now c.loop-place.self a c.loop-place.invariant.same
    (c.requires.kept a (contained c.args.log.now c.loop-place.place a (c.get.ensures ∙ ap Some (sym c.new-at.ensures) ∙ e)))

pub loop-place-preserved-then-get : goal.loop-place-preserved-then-get
loop-place-preserved-then-get c =
    early_marked c.args.table.now c.args.log.now c.loop-place.place c.new-at.result c.args.self.now c.loop-place.self
    (c.get.ensures ∙ ap Some (sym c.new-at.ensures)) (sym c.get-in-loop-place.ensures ∙ c.if-get.true) c.loop-place.invariant

pub loop-place-preserved : goal.loop-place-preserved
loop-place-preserved c =
    let q = c.reach.ensures in
    early_more c.args.table.now c.args.log.now c.loop-place.place c.new-at.result c.args.self.now c.loop-place.self c.reach.new.self
    (c.get.ensures ∙ ap Some (sym c.new-at.ensures)) c.loop-place.invariant
    (record {
      stands = q.stands;
      marks = q.marks;
      same = q.same;
      scanned = q.scanned;
      place = q.place;
      scans = q.scans;
      logs = q.logs;
      waiting = q.waiting;
    })

pub returns-clause-marks : goal.returns-clause-marks
returns-clause-marks c =
    all_marks c.args.table.now c.args.log.now c.loop-place.place c.args.self.now c.loop-place.self
    (omega (arith, c.loop-place-test.false, c.len-place-end.ensures.value)) c.loop-place.invariant
