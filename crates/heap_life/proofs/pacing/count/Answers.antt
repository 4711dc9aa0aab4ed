use Rattle.std.proofs.Common.{◌∙◌, ◌+◌, ℕ, ap, sym, arith}
use Rattle.heap_life.specs.Paces.{counts_with, one_if}
use Rattle.heap_life.proofs.Moments.{counted_at, one_most}
use Rattle.heap_life.proofs.pacing.count.Goals as goal

pub loop-index-preserved : goal.loop-index-preserved
loop-index-preserved c =
    let e = c.event_at-event.result in
    let is = c.count_on-count.ensures in
    record {
      counted = is ∙ ap (λ (n : ℕ). n + one_if (counts_with c.args.small e.step)) c.loop-index.invariant.counted
          ∙ sym (counted_at c.args.small c.args.events.now c.loop-index.index e c.loop-index-test.true c.event_at-event.ensures.at);
      few = let most = one_most (counts_with c.args.small e.step) in let few = c.loop-index.invariant.few in
          omega (arith, most, is, few);
    }
