use Rattle.std.proofs.Common.{arith}
use Rattle.heap_calls.proofs.FreeRuns.{one_free, one_used}
use Rattle.heap_calls.proofs.readers.longest_run.Goals as goal
use Rattle.heap_calls.proofs.readers.longest_run.Goals.{then-is_free, else-is_free}

pub loop-number-preserved : goal.loop-number-preserved
loop-number-preserved c = elim c.if-is_free.branch [
  | then-is_free w ↦ record {
    seen = rw (w.longest-is, w.last-is) (one_free c.args.table.now c.loop-number.number c.loop-number.last c.loop-number.longest
        w.max-longest.result c.loop-number.invariant.seen
        (rw (← c.new.ensures) (c.is_free.ensures.0 w.if-is_free.true))
        (omega (arith, w.max-longest.ensures), omega (arith, w.max-longest.ensures), omega (arith, w.max-longest.ensures)));
  }
  | else-is_free w ↦ record {
    seen = rw (w.longest-is, w.last-is) (one_used c.args.table.now c.loop-number.number c.loop-number.last c.loop-number.longest
        c.loop-number.invariant.seen
        (λ f. (let t = c.is_free.ensures.1 (rw c.new.ensures f) in let n = w.if-is_free.false in cc)));
  }
]
