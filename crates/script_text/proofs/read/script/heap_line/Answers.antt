use Rattle.std.proofs.Common.{◌∙◌, sym}
use Rattle.script_text.proofs.Reading.Twelve.{heap_line_some, heap_line_none}
use Rattle.script_text.proofs.read.script.heap_line.Goals as goal

pub returns-in-Some : goal.returns-in-Some
returns-in-Some c =
    heap_line_some c.args.line.now c.in-Some.config _ c.if-line-gt-LONGEST_LINE.false c.requires (sym c.heap.ensures ∙ c.in-Some.is)

pub returns-in-None : goal.returns-in-None
returns-in-None c = heap_line_none c.args.line.now _ c.if-line-gt-LONGEST_LINE.false c.requires (sym c.heap.ensures ∙ c.in-None.is)
