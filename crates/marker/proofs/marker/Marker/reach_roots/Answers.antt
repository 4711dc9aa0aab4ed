use Rattle.std.proofs.Common.{◌∙◌, Some, ap}
use Rattle.marker.proofs.Views.{same_kept}
use Rattle.marker.proofs.Reached.{all_named, among_next, named_word}
use Rattle.marker.proofs.Passed.{named_below, among_passed}
use Rattle.marker.proofs.marker.Marker.reach_roots.Goals as goal

pub names_marked-requires-clause-marks : goal.names_marked-requires-clause-marks
names_marked-requires-clause-marks c =
    named_below c.args.table.now c.args.roots.now.words c.in-Some.place c.loop-place.self c.law.ensures c.loop-place.invariant.stands
    (λ j a is. same_kept c.args.table.now c.args.self.now c.loop-place.self a c.loop-place.invariant.same (c.requires.kept j a is))

pub reach-requires-clause-kept : goal.reach-requires-clause-kept
reach-requires-clause-kept c = λ a e _.
    let word = named_word c.args.roots.now.words c.loop-place.from c.in-Some.place c.get.result c.in-Some.ensures.lowest c.get.ensures in
    same_kept c.args.table.now c.args.self.now c.loop-place.self a c.loop-place.invariant.same
    (c.requires.kept c.in-Some.place a (word ∙ ap Some e))

pub loop-place-preserved-then-not-names_marked : goal.loop-place-preserved-then-not-names_marked
loop-place-preserved-then-not-names_marked c =
    let q = c.reach.ensures in
    among_next c.args.table.now c.args.roots.now.words c.loop-place.from c.in-Some.place c.get.result
    c.args.self.now c.loop-place.self c.reach.new.self
    c.in-Some.ensures.lowest c.get.ensures c.loop-place.invariant
    (record {
      stands = q.stands;
      marks = q.marks;
      same = q.same;
      scanned = q.scanned;
      place = q.place;
      scans = q.scans;
      logs = q.logs;
      waiting = q.waiting;
    })

pub past_marked-from-requires : goal.past_marked-from-requires
past_marked-from-requires c =
    named_below c.args.table.now c.args.roots.now.words c.in-Some.place c.loop-place.self c.law.ensures c.loop-place.invariant.stands
    (λ j a is. same_kept c.args.table.now c.args.self.now c.loop-place.self a c.loop-place.invariant.same (c.requires.kept j a is))

pub loop-place-preserved : goal.loop-place-preserved
loop-place-preserved c =
    among_passed c.args.table.now c.args.roots.now.words c.loop-place.from c.in-Some.place c.past_marked-from.result
    c.args.self.now c.loop-place.self c.in-Some.ensures.lowest c.past_marked-from.ensures c.loop-place.invariant

pub returns-clause-marks : goal.returns-clause-marks
returns-clause-marks c =
    (all_named c.args.table.now c.args.roots.now.words c.loop-place.from c.args.self.now c.loop-place.self c.in_default.ensures.lowest
    c.loop-place.invariant).marks
