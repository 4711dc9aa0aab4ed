use Rattle.std.proofs.Common.{take}
use Rattle.std.specs.List.{flat_map}
use Rattle.script_text.specs.Texts.{Adds}
use Rattle.heap_view.specs.Types.{escaped_byte}
use Rattle.heap_view.proofs.snapshot_lines.put_escaped.Given as goal

abbrev pub invariant-loop-byte : goal.invariant-loop-byte
invariant-loop-byte l = Adds l.initial.text (flat_map escaped_byte (take l.byte-index l.name)) l.text
