use Rattle.std.proofs.Common.{Err, ap, subst}
use Rattle.std.proofs.lemmas.Result.{on_ok_weaker}
use Rattle.heap_steps.specs.Actors.{EventList}
use Rattle.script_text.specs.Records.{record_text}
use Rattle.script_text.specs.Watched.{TakesPart}
use Rattle.script_text.specs.Written.{AreLinesOf, no_events}
use Rattle.script_text.proofs.Output.LinesOut.{all_of, fails, fails_if}
use Rattle.script_text.proofs.write.record_lines.write_record.Goals as goal

pub put_lines-requires : goal.put_lines-requires
put_lines-requires g c = (c.in-Ok.ensures c.args.writer.now).counted

pub returns-in-Ok-put_lines-clause-ok : goal.returns-in-Ok-put_lines-clause-ok
returns-in-Ok-put_lines-clause-ok g c =
    let w = c.args.writer.now in
    let ready : AreLinesOf c.args.history.now w c.put_lines.new.writer c.put_lines.new.lines =
    subst (λ (r : EventList). AreLinesOf r w c.put_lines.new.writer c.put_lines.new.lines)
    (all_of _ _ c.args.history.now c.config.ensures c.events.ensures.events)
    (c.in-Ok-put_lines.ensures.ok w (no_events c.config.result) (c.in-Ok.ensures w)) in
    on_ok_weaker c.finish.result (λ done. done w c.args.history.now ready) c.finish.ensures.ok

pub returns-in-Ok-put_lines-clause-err : goal.returns-in-Ok-put_lines-clause-err
returns-in-Ok-put_lines-clause-err g c =
    let w = c.args.writer.now in
    let ready : AreLinesOf c.args.history.now w c.put_lines.new.writer c.put_lines.new.lines =
    subst (λ (r : EventList). AreLinesOf r w c.put_lines.new.writer c.put_lines.new.lines)
    (all_of _ _ c.args.history.now c.config.ensures c.events.ensures.events)
    (c.in-Ok-put_lines.ensures.ok w (no_events c.config.result) (c.in-Ok.ensures w)) in
    fails_if c.finish.result w c.finish.new.writer (record_text c.args.history.now) c.finish.ensures.memory
    (λ stop. stop w c.args.history.now ready) c.finish.ensures.err

pub returns-in-Err-clause-err : goal.returns-in-Err-clause-err
returns-in-Err-clause-err g c =
    let w = c.args.writer.now in
    fails c.in-Err.fault w c.put_lines.new.writer (record_text c.args.history.now) (λ is. c.in-Err.ensures.memory (ap Err is))
    (subst (λ (r : EventList). TakesPart w c.put_lines.new.writer (record_text r))
    (all_of _ _ c.args.history.now c.config.ensures c.events.ensures.events)
    (c.in-Err.ensures.err w (no_events c.config.result) (c.in-Ok.ensures w)))
