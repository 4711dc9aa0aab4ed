use Rattle.std.proofs.Common.{◌≡◌, ◌<◌, ◌+◌, length, sym, ◌∙◌, arith}
use Rattle.bit_sets.specs.Bits.{is_between}
use Rattle.region_choice.proofs.Aging.{none_aged, one_aged}
use Rattle.step_core.proofs.Cycles.Forgetting.{marker_is, none_forgotten, one_forgotten, run_emptied}
use Rattle.step_core.proofs.Cycles.Forgetting.{none_between, one_between}
use Rattle.step_core.proofs.cleanup.forget.Goals as goal

pub loop-i-init : goal.loop-i-init
loop-i-init c = record {
  stands = c.requires.stands;
  idle = c.requires.idle;
  forgotten = none_forgotten _ c.args.first c.args.marker.now;
  aged = none_aged (is_between c.args.first (c.args.first + 0)) c.args.ages.now (none_between c.args.first);
}

pub loop-i-preserved : goal.loop-i-preserved
loop-i-preserved c =
    let f = c.forget.ensures in
    let p = c.loop-i.invariant in
    let at : c.new-region.result ≡ c.args.first + c.loop-i.i = omega (arith, c.new-region.ensures, c.number.ensures) in
    let inside : c.new-region.result < length c.args.table.now.regions = omega (arith, at, c.loop-i-test.true, c.requires.within) in
    record {
      stands = f.stands;
      idle = f.running;
      forgotten = one_forgotten _ c.args.first c.loop-i.i c.new-region.result c.args.marker.now c.loop-i.marker
          c.forget.new.self c.law.ensures.positive p.forgotten at (omega (arith, inside, p.stands.previous.each_region))
          (omega (arith, inside, p.stands.next.each_region))
          (f.stands.previous.each_word ∙ sym p.stands.previous.each_word) (f.stands.next.each_word ∙ sym p.stands.next.each_word)
          f.previous f.next f.tops
          (marker_is c.loop-i.marker c.forget.new.self f.grey f.logs (f.running ∙ sym p.idle) f.scans f.waiting);
      aged = one_aged (is_between c.args.first (c.args.first + c.loop-i.i)) (is_between c.args.first (c.args.first + (c.loop-i.i + 1)))
          c.new-region.result (one_between c.args.first c.loop-i.i c.new-region.result at) c.args.ages.now c.loop-i.ages
          c.forget-in-loop-i.new.self (omega (arith, inside, p.aged.count, c.requires.each_age)) c.forget-in-loop-i.ensures p.aged;
    }

pub returns-clause-cleared : goal.returns-clause-cleared
returns-clause-cleared c =
    let f = c.clear_run.ensures in
    run_emptied c.args.first c.args.count c.args.sets.now c.clear_run.new.self f.cards f.each f.sets f.entered
