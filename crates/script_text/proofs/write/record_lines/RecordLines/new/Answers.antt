use Rattle.std.proofs.Common.{ℕ, List, ◌≡◌, ◌∙◌, length, take, ap}
use Rattle.std.proofs.lemmas.List.{with_items_is}
use Rattle.script_text.proofs.Output.LinesOut.{lines_begin}
use Rattle.script_text.proofs.write.record_lines.RecordLines.new.Goals as goal

pub returns : goal.returns
returns c w =
    let len : length c.put_heap-at.new.buffer ≡ c.resize.new.self.len = c.put_heap-at.auto.buffer ∙ c.deref_mut.ensures.len in
    lines_begin c.args.config.now w _
    (ap (λ (items : List ℕ). take c.put_heap-at.result items) (with_items_is c.resize.new.self c.put_heap-at.new.buffer len)
    ∙ c.put_heap-at.ensures.put)
