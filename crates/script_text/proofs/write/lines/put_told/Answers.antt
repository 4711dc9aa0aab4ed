use Rattle.std.specs.Fmt.{decimal}
use Rattle.script_text.specs.Records.{event_text}
use Rattle.script_text.proofs.Output.Counts.{line_put}
use Rattle.script_text.proofs.Output.Lines.{told_put}
use Rattle.script_text.proofs.write.lines.put_told.Goals as goal

pub returns-clause-put : goal.returns-clause-put
returns-clause-put c number e small s told =
    line_put _ _ _ _ _ (decimal number) (event_text e) (c.put-at.ensures.put number small s) c.put_byte-at.ensures.put
    (told_put _ _ _ _ _ _ (event_text e) c.put_short-at.ensures.put c.put_literal-at.ensures.put c.put_reply_words-at.ensures.put told)
    c.put_byte.ensures.put
