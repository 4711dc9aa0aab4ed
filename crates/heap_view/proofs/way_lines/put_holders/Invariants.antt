use Rattle.std.proofs.Common.{take}
use Rattle.std.specs.List.{flat_map}
use Rattle.script_text.specs.Texts.{Adds}
use Rattle.heap_view.specs.Objects.{holder_line}
use Rattle.heap_view.proofs.way_lines.put_holders.Given as goal

abbrev pub invariant-loop-holder : goal.invariant-loop-holder
invariant-loop-holder l = Adds l.initial.text (flat_map holder_line (take l.holder-index l.holders)) l.text
