use Rattle.std.proofs.Common.{◌∙◌}
use Rattle.cards.specs.Cards.{log_of}
use Rattle.script_text.specs.Texts.{spaced_number}
use Rattle.heap_view.proofs.Titles.{line_some}
use Rattle.heap_view.proofs.card_lines.put_card_log.Goals as goal

pub returns : goal.returns
returns c =
    line_some _ spaced_number (log_of c.args.cards.now c.args.mutator) _ _ _ _ (λ n. c.if-logged-eq0.false (c.logged.ensures ∙ n))
    c.put.ensures c.put_logged.ensures c.put-2.ensures
