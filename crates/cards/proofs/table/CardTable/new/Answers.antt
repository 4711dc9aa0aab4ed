use Rattle.std.proofs.Common.{◌≡◌, false, [], replicate, length, arith, ap, ◌∙◌}
use Rattle.std.proofs.lemmas.List.{length-replicate}
use Rattle.cards.proofs.Listed.{IsCounted-new, no_log_is_full}
use Rattle.cards.proofs.table.CardTable.new.Goals as goal

pub invariant_of-result : goal.invariant_of-result
invariant_of-result c =
    let dirty : c.in_ok-dirty.dirty ≡ replicate c.args.cards false = c.in_ok-dirty.ensures in
    let long : length c.in_ok-dirty.dirty ≡ c.args.cards = ap length dirty ∙ length-replicate c.args.cards false in
    let logs : c.loop.logs.items ≡ replicate c.args.mutators [] = c.loop.invariant ∙ ap (λ k. replicate k []) (omega arith) in
    record {
      cards = rw (dirty, logs, c.in_ok-queue.ensures.items) (IsCounted-new c.args.cards c.args.mutators);
      short = rw logs (no_log_is_full c.args.mutators);
      room = omega (arith, long, c.in_ok-queue.ensures.capacity);
      few = omega (arith, long, c.ranges.cards.fits);
    }
