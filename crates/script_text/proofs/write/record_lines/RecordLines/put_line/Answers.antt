use Rattle.std.proofs.Common.{ℕ, List, ◌≡◌, ◌+◌, ◌<◌, ◌^◌, ◌∙◌, ◌++◌, length, take, ap, sym, subst}
use Rattle.std.proofs.lemmas.List.{with_items_is}
use Rattle.script_text.specs.Records.{event_line}
use Rattle.script_text.specs.Watched.{TookBytes, TakesPart}
use Rattle.script_text.specs.Written.{Lines}
use Rattle.script_text.proofs.Output.LinesOut.{line_put, lines_stopped, no_more}
use Rattle.script_text.proofs.write.record_lines.RecordLines.put_line.Goals as goal

pub returns-in-Ok-clause-ok : goal.returns-in-Ok-clause-ok
returns-in-Ok-clause-ok g c first r e told before =
    let l = c.self.inside in
    let new = c.put_told-self-inside.new.buffer in
    let small : l.events + 1 < 2 ^ 64 = rw (ap (λ (lines : Lines). lines.events) c.self.view_is) c.requires.few in
    let len : length new ≡ l.buffer.len = c.put_told-self-inside.auto.buffer ∙ c.deref_mut.ensures.len in
    let made : (written : List ℕ) × TookBytes c.args.writer.now c.make_room.new.writer written
    × (take l.at l.buffer.items ≡ written ++ take c.in-Ok.left l.buffer.items) =
    subst (λ (items : List ℕ). (written : List ℕ) × TookBytes c.args.writer.now c.make_room.new.writer written
    × (take l.at items ≡ written ++ take c.in-Ok.left items)) c.deref.ensures.value c.in-Ok.ensures.ok in
    line_put r e first c.args.writer.now c.make_room.new.writer c.args.self.now l.events
    (take l.at l.buffer.items) (take c.in-Ok.left l.buffer.items) _ before (sym c.self.view_is) made
    (ap (λ (items : List ℕ). take c.put_told-self-inside.result items) (with_items_is l.buffer new len)
    ∙ subst (λ (items : List ℕ).
    take c.put_told-self-inside.result new ≡ take c.in-Ok.left items ++ event_line (l.events + 1) e)
    c.deref_mut.ensures.value (c.put_told-self-inside.ensures.put (l.events + 1) e small c.count_on.ensures told))

pub returns-in-Err-clause-err : goal.returns-in-Err-clause-err
returns-in-Err-clause-err g c first r more before =
    let l = c.self.inside in
    lines_stopped r more first c.args.writer.now c.make_room.new.writer c.args.self.now l.events (take l.at l.buffer.items)
    before (sym c.self.view_is)
    (subst (λ (items : List ℕ). TakesPart c.args.writer.now c.make_room.new.writer (take l.at items)) c.deref.ensures.value
    c.in-Err.ensures.err)

pub invariant_of-self : goal.invariant_of-self
invariant_of-self g c =
    let l = c.self.inside in
    let new = c.put_told-self-inside.new.buffer in
    let len : length new ≡ l.buffer.len = c.put_told-self-inside.auto.buffer ∙ c.deref_mut.ensures.len in
    let long : length new ≡ 8192 = c.put_told-self-inside.auto.buffer ∙ ap length c.deref_mut.ensures.value ∙ c.self.invariant.0 in
    let within = no_more c.put_told-self-inside.ensures.end c.in-Ok.ensures.room in
    (ap length (with_items_is l.buffer new len) ∙ long, within, c.count_on.ensures)
