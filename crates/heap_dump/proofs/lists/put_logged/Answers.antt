use Rattle.std.proofs.Common.{◌∙◌, [], sym}
use Rattle.std.specs.Prelude.{slice_index_or}
use Rattle.script_text.specs.Texts.{spaced_number}
use Rattle.heap_dump.proofs.Putting.{adds_at, adds_more}
use Rattle.heap_dump.proofs.lists.put_logged.Goals as goal

pub loop-place-preserved : goal.loop-place-preserved
loop-place-preserved c =
    adds_more spaced_number (slice_index_or c.args.cards.now.logs c.args.mutator []) _ _ _ _ _ c.logged_card.ensures c.loop-place.invariant
    (adds_at spaced_number _ _ _ _ (sym (c.from.ensures ∙ c.number.ensures)) c.put_number.ensures)
