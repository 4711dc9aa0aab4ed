use Rattle.std.proofs.Common.{◌∙◌, sym}
use Rattle.script_text.specs.Texts.{spaced_number}
use Rattle.heap_dump.proofs.Putting.{adds_at, adds_more}
use Rattle.heap_dump.proofs.lists.put_queued.Goals as goal

pub loop-place-preserved : goal.loop-place-preserved
loop-place-preserved c =
    adds_more spaced_number c.args.cards.now.queue _ _ _ _ _ c.queued_card.ensures c.loop-place.invariant
    (adds_at spaced_number _ _ _ _ (sym (c.from.ensures ∙ c.number.ensures)) c.put_number.ensures)
