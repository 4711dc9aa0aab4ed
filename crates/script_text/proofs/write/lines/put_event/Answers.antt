use Rattle.std.specs.Fmt.{decimal}
use Rattle.script_text.specs.Records.{event_text}
use Rattle.script_text.proofs.Output.Counts.{line_put}
use Rattle.script_text.proofs.write.lines.put_event.Goals as goal

pub returns-clause-put : goal.returns-clause-put
returns-clause-put c number small s =
    line_put _ _ _ _ _ (decimal number) (event_text c.args.event.now) (c.put-at.ensures.put number small s) c.put_byte-at.ensures.put
    c.put_event_text-at.ensures.put c.put_byte.ensures.put
