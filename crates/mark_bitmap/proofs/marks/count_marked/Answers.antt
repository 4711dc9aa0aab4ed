use Rattle.std.proofs.Common.{◌≡◌, ◌<◌, ◌+◌, length, arith, sym, ap, ◌∙◌}
use Rattle.std.proofs.Math.Seq.{take-length}
use Rattle.mark_bitmap.specs.Marks.{marked_count}
use Rattle.mark_bitmap.proofs.Counts.{count_to, count_next}
use Rattle.mark_bitmap.proofs.marks.count_marked.Goals as goal

pub loop-from-preserved : goal.loop-from-preserved
loop-from-preserved c =
    let n = rw c.new.ensures at c.in-Some.ensures.lowest in
    let within : c.in-Some.found < length c.args.marks.now = c.in-Some.ensures.within in
    let word : c.word-from.result ≡ c.in-Some.found = c.word-from.ensures in
    record {
      inside = omega (arith, within, word);
      counted = ap (λ k. k + 1) c.loop-from.invariant.counted
          ∙ sym (rw word (count_next c.args.marks.now c.loop-from.from c.in-Some.found n.at_least within n.is_in n.lowest));
    }

pub returns-in_default : goal.returns-in_default
returns-in_default c =
    let marks = c.args.marks.now in
    c.loop-from.invariant.counted
    ∙ sym (count_to marks c.loop-from.from (length marks) c.loop-from.invariant.inside (omega arith)
    (λ a k l. (rw c.new.ensures at c.in_default.ensures.lowest) a k))
    ∙ ap marked_count (take-length marks)
