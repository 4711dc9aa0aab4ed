use Rattle.std.proofs.Common.{◌≡◌, ◌∙◌, ◌<◌, ℕ, ◌+◌, List, Some, sym, arith, length, map, take, slice_get}
use Rattle.std.proofs.lemmas.List.{take_more_same, length-map}
use Rattle.std.proofs.lemmas.Option.{get_or_from_slice_get}
use Rattle.heap_steps.specs.declared.step.Event.{Event}
use Rattle.heap_steps.specs.declared.step.Reply.{Reply}
use Rattle.jobs.specs.Replays.{reply_in}
use Rattle.jobs.proofs.replay.first_other.Goals as goal

-- two lists of events whose replies are the same up to a place, and there
same_more : (given ran : List Event) (i : ℕ) (a b : Reply) → length ran ≡ length given → i < length given
    → slice_get (map reply_in given) i ≡ Some a → slice_get (map reply_in ran) i ≡ Some b → b ≡ a
    → take i (map reply_in ran) ≡ take i (map reply_in given) → take (i + 1) (map reply_in ran) ≡ take (i + 1) (map reply_in given)
same_more given ran i a b long within given_at ran_at same before =
    take_more_same (map reply_in ran) (map reply_in given) i a (omega (arith, within, long, length-map ran reply_in))
    (omega (arith, within, length-map given reply_in)) before
    (get_or_from_slice_get (map reply_in ran) i b a ran_at ∙ same ∙ sym (get_or_from_slice_get (map reply_in given) i a a given_at))

pub loop-index-preserved : goal.loop-index-preserved
loop-index-preserved c = same_more c.args.given.now c.args.ran.now c.loop-index.index _ _ c.requires c.loop-index-test.true
    c.reply_at.ensures c.reply_at-in-loop-index.ensures (c.is_other.ensures.same c.if-is_other.false) c.loop-index.invariant
