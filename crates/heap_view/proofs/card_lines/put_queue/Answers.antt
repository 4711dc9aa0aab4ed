use Rattle.std.proofs.Common.{◌≢◌, ◌∙◌, length, ne_eqb}
use Rattle.script_text.specs.Texts.{spaced_number}
use Rattle.heap_dump.proofs.Putting.{adds_else}
use Rattle.heap_view.proofs.Titles.{all_added, line_some}
use Rattle.heap_view.proofs.card_lines.put_queue.Goals as goal

pub returns : goal.returns
returns c =
    let queue = c.args.cards.now.queue in
    let some : length queue ≢ 0 = (λ n. c.if-count-eq0.false (c.queued-count.ensures ∙ n)) in
    adds_else _ _ _ _ _ (ne_eqb (length queue) 0 some) (line_some _ spaced_number queue _ _ _ _ some c.put-2.ensures
    (all_added queue _ _ _ c.queued-count.ensures c.put_queued.ensures) c.put-3.ensures)
