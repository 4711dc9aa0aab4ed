use Rattle.std.proofs.Common.{List, ℕ, [], subst, sym, take}
use Rattle.std.specs.Prelude.{OnErr}
use Rattle.std.proofs.lemmas.Result.{on_err_weaker}
use Rattle.script_text.specs.Records.{record_text}
use Rattle.script_text.specs.Watched.{TakesPart}
use Rattle.heap_steps.specs.Actors.{EventList}
use Rattle.script_text.proofs.Output.LinesOut.{lines_stopped, none_more}
use Rattle.script_text.proofs.write.record_lines.RecordLines.finish.Goals as goal

pub returns-clause-err : goal.returns-clause-err
returns-clause-err g c =
    let l = c.self.inside in
    let stop : OnErr c.write_bytes.result (TakesPart c.args.writer.now c.write_bytes.new.writer (take l.at l.buffer.items)) =
    subst (λ (items : List ℕ). OnErr c.write_bytes.result (TakesPart c.args.writer.now c.write_bytes.new.writer (take l.at items)))
    c.deref.ensures.value c.write_bytes.ensures.err in
    on_err_weaker c.write_bytes.result
    (λ stopped first r before. subst (λ (whole : EventList). TakesPart first c.write_bytes.new.writer (record_text whole)) (none_more r)
    (lines_stopped r [] first c.args.writer.now c.write_bytes.new.writer c.args.self l.events (take l.at l.buffer.items)
    before (sym c.self.view_is) stopped)) stop
